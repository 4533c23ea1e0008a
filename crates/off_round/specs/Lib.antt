-- OFF texts there and back: the words of what is written, and what reading makes of them.
pub mod Words
pub mod Round
