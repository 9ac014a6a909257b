pub mod RowsBack
mod Ascending
mod TablesBack
mod CallsBack
