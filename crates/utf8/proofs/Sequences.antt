-- The rows of UTF-8's table: which row a first byte leaves. Assumes nothing.
use mathlib.Core.Path.{◌≡◌, refl, subst}
use mathlib.Core.List.{List}
use Prim.Native.Nat.{ℕ, ◌+◌, ◌≤◌, ◌<◌}
use lib.ListN.{get_or}
use native.Mathlib.Omega.{arith}
use Rattle.rules.specs.Class.{Class}
use Rattle.rules.specs.Rule.{Rule, one, ◌then◌, Takes, Longest, Fails}
use Rattle.rules.proofs.Classes.{apart, apart_span}
use Rattle.rules.proofs.Ways.{never}
use Rattle.rules.proofs.Matches.{byte_end, ending}
use Rattle.lexicon.specs.Utf8.{range, tail, sequence}
use Rattle.lexicon.specs.Found.{Finds}
use Rattle.std.proofs.Common.{Option, Some, Bor}
use Rattle.std.specs.Slice.{IsItemAt}
use Rattle.text.proofs.Ranges.{in_range}
use Rattle.text.proofs.Searches.{Same, found, first, whole, this, past, fails, byte_longest}

module _ {text : List ℕ} {i : ℕ} where
  pub row_ascii : Takes text (range 0x00 0x7F) i (i + 1) → Same text sequence i (range 0x00 0x7F) i
  unfolding never apart apart_span
  row_ascii t = this refl t whole

  pub row_C2 : Takes text (range 0xC2 0xDF) i (i + 1) → Same text sequence i tail (i + 1)
  unfolding never apart apart_span
  row_C2 t = past refl t (this refl t (first t))

  pub row_E0 : Takes text (range 0xE0 0xE0) i (i + 1) → Same text sequence i (range 0xA0 0xBF then tail) (i + 1)
  unfolding never apart apart_span
  row_E0 t = past refl t (past refl t (this refl t (first t)))

  pub row_E1 : Takes text (range 0xE1 0xEC) i (i + 1) → Same text sequence i (tail then tail) (i + 1)
  unfolding never apart apart_span
  row_E1 t = past refl t (past refl t (past refl t (this refl t (first t))))

  pub row_ED : Takes text (range 0xED 0xED) i (i + 1) → Same text sequence i (range 0x80 0x9F then tail) (i + 1)
  unfolding never apart apart_span
  row_ED t = past refl t (past refl t (past refl t (past refl t (this refl t (first t)))))

  pub row_EE : Takes text (range 0xEE 0xEF) i (i + 1) → Same text sequence i (tail then tail) (i + 1)
  unfolding never apart apart_span
  row_EE t = past refl t (past refl t (past refl t (past refl t (past refl t (this refl t (first t))))))

  pub row_F0 : Takes text (range 0xF0 0xF0) i (i + 1) → Same text sequence i (range 0x90 0xBF then tail then tail) (i + 1)
  unfolding never apart apart_span
  row_F0 t = past refl t (past refl t (past refl t (past refl t (past refl t (past refl t (this refl t (first t)))))))

  pub row_F1 : Takes text (range 0xF1 0xF3) i (i + 1) → Same text sequence i (tail then tail then tail) (i + 1)
  unfolding never apart apart_span
  row_F1 t = past refl t (past refl t (past refl t (past refl t (past refl t (past refl t (past refl t (this refl t (first t))))))))

  pub row_F4 : Takes text (range 0xF4 0xF4) i (i + 1) → Same text sequence i (range 0x80 0x8F then tail then tail) (i + 1)
  unfolding never apart apart_span
  row_F4 t = past refl t (past refl t (past refl t (past refl t (past refl t (past refl t (past refl t (past refl t (first t))))))))

  -- no row begins with any other byte
  no_row_80 : Takes text (range 0x80 0xC1) i (i + 1) → Fails text sequence i
  unfolding never apart apart_span
  no_row_80 t = fails refl t

  no_row_F5 : Takes text (range 0xF5 0xFF) i (i + 1) → Fails text sequence i
  unfolding never apart apart_span
  no_row_F5 t = fails refl t

-- the ways out of `sequence`, by the first byte
module _ {text : List ℕ} {i : ℕ} (x : Bor ℕ) (lent : IsItemAt text i (Some x)) where
  within : (low high : ℕ) → low ≤ x.now → x.now ≤ high → Takes text (range low high) i (i + 1)
  within low high l h = let same : x.now ≡ get_or text i 0 = lent.4 (omega arith) 0 in in_range text low high i lent.3.0 (omega arith) (omega arith)

  pub ascii : x.now < 0x80 → Longest text sequence i (i + 1)
  ascii h = let t = within 0x00 0x7F (omega arith) (omega arith) in found (Some (i + 1)) (row_ascii t) (byte_longest t)

  pub leads : (low high : ℕ) {r : Rule} (f : Option ℕ) → (Takes text (range low high) i (i + 1) → Same text sequence i r (i + 1)) → low ≤ x.now → x.now ≤ high → Finds text r (i + 1) f → Finds text sequence i f
  leads low high f row l h e = found f (row (within low high l h)) e

  pub stray : 0x80 ≤ x.now → x.now < 0xC2 → Fails text sequence i
  stray l h = no_row_80 (within 0x80 0xC1 l (omega arith))

  pub too_high : 0xF5 ≤ x.now → x.now < 256 → Fails text sequence i
  too_high l h = no_row_F5 (within 0xF5 0xFF l (omega arith))

-- a byte of a class, and then the rest of the rule behind it
module _ {text : List ℕ} {c : Class} {i : ℕ} where
  pub then_finds : (r : Rule) {j : ℕ} (f : Option ℕ) → Longest text (one c) i j → Finds text r j f → Finds text (one c then r) i f
  then_finds r {j} f l t =
      let e : j ≡ i + 1 = byte_end l.takes in
      found f (first (ending e l.takes)) (subst (λ (x : ℕ). Finds text r x f) e t)
