pub mod Printed
pub mod Trims
