pub mod TextForms
