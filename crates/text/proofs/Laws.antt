-- Laws of numbers, lines and fields, and of the texts of given lists: these are read back.
pub mod Bounds
pub mod Digits
pub mod DigitsRead
pub mod EventsRead
pub mod Fields
pub mod Lacking
pub mod Lines
pub mod NetworkRead
pub mod Numbers
pub mod Parallel
pub mod Places
pub mod Remarks
pub mod TextFields
pub mod TextLines
pub mod TextRows
pub mod ThresholdsRead
