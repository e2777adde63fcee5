-- What the parts of a Text literal answer.
pub mod Parts
pub mod FirstBad
