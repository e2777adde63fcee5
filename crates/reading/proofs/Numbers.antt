-- The numbers that refusals have. Assumes nothing.
use mathlib.Core.Path.{◌≡◌, refl, subst}
use mathlib.Core.Bool.{Bool, true, false, ◌||◌}
use mathlib.Core.List.{List}
use mathlib.Core.Option.{none}
use Prim.Native.Nat.{ℕ}
use native.Mathlib.Omega.{arith}
use lib.Dec.{eqb}
use Rattle.rules.proofs.Bools.{or_false_right, clash}
use Rattle.grammar.specs.Tokens.{Tok}
use Rattle.grammar.specs.Level.{Level}
use Rattle.reading.specs.declared.Answer.{Answer}
use Rattle.reading.specs.declared.Limits.{Limits}
use Rattle.reading.specs.declared.Rules.{Rules}
use Rattle.reading.specs.Tests.{First}
use Rattle.reading.specs.Faults.{tests, Fault, no_token, wrong_end, at_token}
use Rattle.reading.specs.Answers.{Reading, no_level, too_long, not_utf8, faulty, no_room}
use Rattle.reading.proofs.Tests.{has, no_number}

-- the numbers of faults, written as `has` computes them, and that no fault has another
abbrev is_fault : ℕ → Bool
is_fault n = eqb n 4 || (eqb n 7 || (eqb n 6 || (eqb n 15 || (eqb n 5 || (eqb n 11 || false)))))

pub fault_number : (limits : Limits) (bytes : List ℕ) {l : Level} {ts : List Tok} {p n q : ℕ} (m : ℕ) → is_fault m ≡ false → Fault limits l bytes ts p n q → n ≡ m → ⊥
fault_number limits bytes m e (no_token c) i = clash (subst (λ (k : ℕ). is_fault k ≡ true) i refl) e
fault_number limits bytes m e (wrong_end c w) i = clash (subst (λ (k : ℕ). is_fault k ≡ true) i refl) e
fault_number limits bytes {l} {ts} m e (at_token {t = t} c x v) i =
    let T = tests limits l bytes ts t in no_number T m (or_false_right (eqb m 4) (has T m) e) (subst (First T) i x)

-- without a derivation the number is not 0
pub refused_number : (rules : Rules) (bytes : List ℕ) {room number : ℕ} {r : Answer} → Reading rules bytes room number r none → r.number ≡ 0 → ⊥
refused_number rules bytes (no_level f) e = omega (arith, e)
refused_number rules bytes (too_long l h) e = omega (arith, e)
refused_number rules bytes (not_utf8 l h b) e = omega (arith, e)
refused_number rules bytes (faulty l h w f) e = fault_number rules.limits bytes 0 refl f.fault e
refused_number rules bytes (no_room l h w a m) e = omega (arith, e)
