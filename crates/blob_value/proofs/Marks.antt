-- Marks and digits: what the small functions over them answer. Assumes nothing.
use mathlib.Core.Path.{◌≡◌, refl}
use Prim.Native.Nat.{ℕ, ◌≤◌, ◌<◌}
use borrow.Author.Tests.{eq-eqb, ne_eqb, lt-ltb, le-ltb}
use Rattle.rules.specs.Class.{byte_of}
use Rattle.lexicon.specs.Values.{digit}
use Rattle.lexicon.specs.Parts.{sextet}
use Rattle.blob_value.specs.Marks.{value_of}

pub value_digit : (radix b r : ℕ) → radix < 64 → r ≡ digit b → r ≡ value_of radix b
unfolding value_of
value_digit radix b r h e = rw (lt-ltb radix 64 h) e

pub value_pad : (radix b : ℕ) → 64 ≤ radix → b ≡ byte_of "=" → 0 ≡ value_of radix b
unfolding value_of
value_pad radix b h e = rw (le-ltb radix 64 h) rw (eq-eqb b (byte_of "=") e) refl

pub value_sextet : (radix b r : ℕ) → 64 ≤ radix → (b ≡ byte_of "=" → ⊥) → r ≡ sextet b → r ≡ value_of radix b
unfolding value_of
value_sextet radix b r h n e = rw (le-ltb radix 64 h) rw (ne_eqb b (byte_of "=") n) e
