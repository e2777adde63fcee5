-- A walk over a literal's digits, from one to the next, with their number so far. Assumes nothing.
use mathlib.Core.Path.{◌≡◌, refl, sym, ap, subst, ◌∙◌}
use mathlib.Core.List.{List, [], ◌∷◌}
use Prim.Native.Nat.{ℕ, ◌+◌, ◌*◌, ◌≤◌, ◌<◌, ◌^◌}
use native.Mathlib.Nat.{mul-le-mul_left}
use native.Mathlib.Omega.{arith}
use lib.ListN.{length, get_or}
use Rattle.std.specs.Prelude.{Option, Some, None, SomeIff}
use Rattle.rules.specs.Rule.{opt, Longest}
use Rattle.rules.proofs.Matches.{forward, starting}
use Rattle.lexicon.specs.declared.Base.{Base}
use Rattle.lexicon.specs.declared.Base.TheVariants.{Two, Eight, Ten, Sixteen}
use Rattle.lexicon.specs.Bytes.{digits, radix}
use Rattle.lexicon.specs.Literals.{joint}
use Rattle.lexicon.specs.Values.{Digits, last_unit, next_unit, digit, value, value_from}
use Rattle.lexicon.proofs.Groups.{digits_at, digits_forward, unit_end, joint_end}
use Rattle.lexicon.proofs.Numbers.{clear}
use Rattle.integer_value.specs.Parts.{Ends, Total}

-- more digits make no number smaller
radix_some : (b : Base) → 1 ≤ radix b
radix_some Two = omega arith
radix_some Eight = omega arith
radix_some Ten = omega arith
radix_some Sixteen = omega arith

grows : (r v : ℕ) (ds : List ℕ) → 1 ≤ r → v ≤ value_from r v ds
grows r v [] h = omega arith
grows r v (d ∷ ds) h =
    let x : v * 1 ≤ v * r = mul-le-mul_left v h in let y = grows r (v * r + digit d) ds h in omega arith

-- at i, with the number sum of the digits before: what is left comes to the whole number
pub record Walk (piece : List ℕ) (b : Base) (at i sum : ℕ) : Type 0 where
  pub whole : List ℕ
  pub whole_are : Digits piece 1 (digits b) at (length piece) whole
  pub rest : List ℕ
  pub rest_are : Digits piece 1 (digits b) i (length piece) rest
  pub so_far : value_from (radix b) sum rest ≡ value (radix b) whole

module _ {piece : List ℕ} {b : Base} {at : ℕ} where
  pub walk_begins : Ends piece b at → Walk piece b at at 0
  walk_begins e =
      record { whole = e.bytes; whole_are = e.digits_are; rest = e.bytes; rest_are = e.digits_are; so_far = refl }

  module _ {i sum : ℕ} (w : Walk piece b at i sum) where
    pub walk_within : i < length piece
    walk_within = (digits_at piece 0 (digits b) (clear b) w.rest_are).0

    abbrev longer : ℕ
    longer = sum * radix b + digit (get_or piece i 0)

    -- the number is at least what it is with the digit here
    least : {ds : List ℕ} → Digits piece 1 (digits b) i (length piece) ds → longer ≤ value_from (radix b) sum ds
    least (last_unit u) = omega arith
    least (next_unit {ds = ds} u s d) = grows (radix b) longer ds (radix_some b)

    -- where it does not fit with the digit here, it does not fit
    pub walk_beyond : {r : Option ℕ} → SomeIff r (longer < 2 ^ 64) longer → r ≡ None → Total piece b at None
    walk_beyond k e =
        let h = subst (λ (x : Option ℕ). SomeIff x (longer < 2 ^ 64) longer) e k in
        record { bytes = w.whole; digits_are = w.whole_are; counted = λ f. h (omega (arith, f, least w.rest_are, w.so_far)) }

    last : {ds : List ℕ} → Digits piece 1 (digits b) i (length piece) ds → i + 1 ≡ length piece → value_from (radix b) sum ds ≡ longer
    last (last_unit u) e = refl
    last (next_unit u s d) e = let x = unit_end 1 (digits b) u in let y = forward s in let z = digits_forward d in absurd (omega arith)

    some_is : {r : Option ℕ} {v : ℕ} → SomeIff r (longer < 2 ^ 64) longer → r ≡ Some v → (longer < 2 ^ 64) × (v ≡ longer)
    some_is k e = subst (λ (x : Option ℕ). SomeIff x (longer < 2 ^ 64) longer) e k

    pub walk_ends : {r : Option ℕ} {v : ℕ} → SomeIff r (longer < 2 ^ 64) longer → r ≡ Some v → i + 1 ≡ length piece → Total piece b at (Some v)
    walk_ends k e h =
        let o = some_is k e in
        let x = sym w.so_far ∙ last w.rest_are h in
        record { bytes = w.whole; digits_are = w.whole_are; counted = (omega (arith, o.0, x), o.1 ∙ sym x) }

    step : {ds : List ℕ} (v k : ℕ) → Digits piece 1 (digits b) i (length piece) ds → value_from (radix b) sum ds ≡ value (radix b) w.whole → v ≡ longer → (i + 1 ≡ length piece → ⊥) → Longest piece (opt joint) (i + 1) k → Walk piece b at k v
    step v k (last_unit u) q e h j = absurd (h (sym (unit_end 1 (digits b) u)))
    step v k (next_unit {ds = ds} u s d) q e h j =
        let p = joint_end (digits b) (clear b) (starting (unit_end 1 (digits b) u) s) (digits_at piece 0 (digits b) (clear b) d) j in
        record {
          whole = w.whole;
          whole_are = w.whole_are;
          rest = ds;
          rest_are = subst (λ (x : ℕ). Digits piece 1 (digits b) x (length piece) ds) p d;
          so_far = ap (λ (x : ℕ). value_from (radix b) x ds) e ∙ q;
        }

    pub walk_next : {r : Option ℕ} {v k : ℕ} → SomeIff r (longer < 2 ^ 64) longer → r ≡ Some v → (i + 1 ≡ length piece → ⊥) → Longest piece (opt joint) (i + 1) k → Walk piece b at k v
    walk_next c e h j = step _ _ w.rest_are w.so_far (some_is c e).1 h j
