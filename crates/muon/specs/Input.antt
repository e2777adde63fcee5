-- What was read lies within the buffer. Assumes nothing.
use Rattle.std.specs.Prelude.{List, ℕ, ◌≤◌, length, Result, Ok, Err}

-- of an error nothing is said
abbrev pub Within : {E : Type 0} → List ℕ → Result ℕ E → Type 0
Within buffer (Ok n) = n ≤ length buffer
Within buffer (Err e) = Unit {0}
