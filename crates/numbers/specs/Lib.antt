pub mod Lists
pub mod Numbers
pub mod Text
pub mod Grammar
pub mod Inner
