-- What the three texts mean, byte by byte: lines, numbers and fields, then each text as a fold over its lines; last the texts of given
-- lists.
pub mod Lines
pub mod Places
pub mod NextLine
pub mod Numbers
pub mod Digits
pub mod Fields
pub mod Parallel
pub mod Reading
pub mod NetworkText
pub mod EventText
pub mod ThresholdText
pub mod Texts
