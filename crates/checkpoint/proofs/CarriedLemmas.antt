pub mod CarriedMore
