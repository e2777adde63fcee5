-- A test that says whether something holds. Assumes nothing.
use Rattle.std.specs.Prelude.{◌≡◌, Bool, true}

pub record Says (b : Bool) (P : Type 0) : Type 0 where
  pub true_holds : b ≡ true → P
  pub holds_true : P → b ≡ true
