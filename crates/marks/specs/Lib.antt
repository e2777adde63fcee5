-- What the functions of this crate are said in. The plain form's rule is form/specs.
pub mod ByNumber
