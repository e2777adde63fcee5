-- The power of a Fraction, `* R ^ E`: what its search finds at each step, and which radix it has. Assumes nothing.
use mathlib.Core.Path.{◌≡◌, refl, subst, sym}
use mathlib.Core.Bool.{true}
use mathlib.Core.List.{List, ◌∷◌}
use Prim.Native.Nat.{ℕ, ◌+◌, ◌≤◌, ◌<◌}
use native.Mathlib.Nat.{le_antisymm}
use lib.ListN.{get_or}
use Rattle.rules.specs.Class.{Class, ◌to◌, just, any_of}
use Rattle.rules.specs.Rule.{At, Takes, nothing, byte, both, left, right, Longest, Fails}
use Rattle.rules.proofs.Classes.{apart, apart_span, includes, in_some, includes_in}
use Rattle.rules.proofs.Matches.{starting}
use Rattle.rules.proofs.Ways.{never}
use Rattle.lexicon.specs.Bytes.{decimal, radix}
use Rattle.lexicon.specs.Space.{blank, Skips}
use Rattle.lexicon.specs.Literals.{plus_minus, integer, power}
use Rattle.lexicon.specs.Values.{Number, value}
use Rattle.lexicon.proofs.Spaces.{Ahead}
use Rattle.lexicon.specs.Parts.{Numeral, SomeNumeral, exponent, SmallPower}
use Rattle.lexicon.proofs.Numbers.{numeral, numeral_at, number_same, valued, of_nonsigned, to_nonsigned, to_base}
use Rattle.lexicon.proofs.Integers.{decimal_blank}
use Rattle.lexicon.proofs.Fractions.{Symbol, of_spaced, to_spaced, symbol_ahead, ahead_most, behind_symbol, some, star_apart, caret_apart}

-- an Integer's first byte
abbrev begins : Class
begins = "0" to "9" ∷ any_of "+-"

begins_blank : never begins blank ≡ true
unfolding never apart apart_span
begins_blank = refl

signs_begin : includes plus_minus begins ≡ true
unfolding includes in_some
signs_begin = refl

digits_begin : includes decimal begins ≡ true
unfolding includes in_some
digits_begin = refl

-- a symbol as a search finds it: all dividing space on both sides is passed over
pub record Found (text : List ℕ) (b i p : ℕ) : Type 0 where
  pub place : ℕ
  pub skipped : Skips text i place
  pub stands : At text (just b) place
  pub behind : Skips text (place + 1) p

-- a power from i to j
pub record Power (text : List ℕ) (i j : ℕ) : Type 0 where
  pub start : ℕ
  pub end : ℕ
  pub star : Symbol text 0x2A i start
  pub base : SomeNumeral text start end
  pub behind : Takes text exponent end j

module _ (text : List ℕ) where
  pub symbol : {b i p : ℕ} → Found text b i p → Symbol text b i p
  symbol f = record { place = f.place; skipped = f.skipped; stands = f.stands; rest = f.behind.takes }

  -- what follows begins where the search goes on
  pub found_same : (c : Class) {b i p k : ℕ} → never c blank ≡ true → Found text b i p → Symbol text b i k → At text c k → k ≡ p
  found_same c e f s x = behind_symbol text c e f.skipped f.behind s x

  -- ---- the exponent

  integer_at : {i j : ℕ} → Takes text integer i j → At text begins i
  integer_at {i} (both (left (both (byte x e) s)) n) = (x.0, includes_in plus_minus begins (get_or text i 0) signs_begin x.1)
  integer_at {i} (both (right (nothing e)) n) =
      let a = numeral_at text (of_nonsigned text (starting (sym e) n)).is in (a.0, includes_in decimal begins (get_or text i 0) digits_begin a.1)

  caret_of : {i j : ℕ} → Takes text exponent i j → Ahead text (just 0x5E) i
  caret_of (both s x) = symbol_ahead text (of_spaced text 0x5E caret_apart s)

  exponent_from : {i q j : ℕ} → Found text 0x5E i q → Takes text exponent i j → Takes text integer q j
  exponent_from f (both s x) = starting (found_same begins begins_blank f (of_spaced text 0x5E caret_apart s) (integer_at x)) x

  pub no_caret : {i : ℕ} → (Ahead text (just 0x5E) i → ⊥) → Fails text exponent i
  no_caret h = record { none = λ t. h (caret_of t) }

  pub no_exponent : {i q : ℕ} → Found text 0x5E i q → Fails text integer q → Fails text exponent i
  no_exponent f h = record { none = λ t. h.none (exponent_from f t) }

  pub whole_exponent : {i q j : ℕ} → Found text 0x5E i q → Longest text integer q j → Longest text exponent i j
  whole_exponent f l = record { takes = both (to_spaced text 0x5E (symbol f)) l.takes; most = λ t. l.most (exponent_from f t) }

  -- ---- the power

  pub of_power : {i j : ℕ} → Takes text power i j → Power text i j
  of_power (both s (both n x)) = record { start = _; end = _; star = of_spaced text 0x2A star_apart s; base = of_nonsigned text n; behind = x }

  pub to_power : {i j : ℕ} → Power text i j → Takes text power i j
  to_power p = both (to_spaced text 0x2A p.star) (both (to_nonsigned text p.base.of (to_base text p.base.is)) p.behind)

  pub power_ahead : {i j : ℕ} → Takes text power i j → Ahead text (just 0x2A) i
  power_ahead t = symbol_ahead text (of_power t).star

  pub no_star : {i : ℕ} → (Ahead text (just 0x2A) i → ⊥) → Fails text power i
  no_star h = record { none = λ t. h (power_ahead t) }

  module _ {i p : ℕ} (f : Found text 0x2A i p) where
    -- every power from i has its number from p
    based : {j : ℕ} (w : Power text i j) → SomeNumeral text p w.end
    based w =
        subst (λ (x : ℕ). SomeNumeral text x w.end) (found_same decimal decimal_blank f w.star (numeral_at text w.base.is)) w.base

    pub no_radix : ((k : ℕ) → SomeNumeral text p k → ⊥) → Fails text power i
    no_radix h = record { none = λ t. let w = of_power t in h w.end (based w) }

    module _ {e : ℕ} (n : SomeNumeral text p e) (most : (k : ℕ) → SomeNumeral text p k → k ≤ e) where
      -- and that number is the longest
      ended : {k : ℕ} → SomeNumeral text p k → Ahead text (just 0x5E) k → k ≡ e
      ended m a = le_antisymm (most _ m) (ahead_most text 0x5E caret_apart m a n)

      behind_radix : {j : ℕ} → Power text i j → Takes text exponent e j
      behind_radix w = starting (ended (based w) (caret_of w.behind)) w.behind

      pub no_power : Fails text exponent e → Fails text power i
      no_power h = record { none = λ t. h.none (behind_radix (of_power t)) }

      pub whole_power : {j : ℕ} → Longest text exponent e j → Longest text power i j
      whole_power l =
          record {
            takes = to_power (record { start = p; end = e; star = symbol f; base = n; behind = l.takes });
            most = λ t. l.most (behind_radix (of_power t));
          }

      -- the radix of a power from i is the number found
      pub radix_is : {j : ℕ} (w : SmallPower text i j) → value (radix n.of) n.bytes < 2
      radix_is w =
          let m : Numeral text w.number.0 w.start w.end w.number.1.bytes = numeral text w.number.1 in
          let x : w.start ≡ p = found_same decimal decimal_blank f (of_spaced text 0x2A star_apart w.before) (numeral_at text m) in
          let y : w.end ≡ e = ended (subst (λ (k : ℕ). SomeNumeral text k w.end) x (some text m)) (caret_of w.behind) in
          let z : Number text p e w.number_is = subst (λ (k : ℕ). Number text p k w.number_is) y (subst (λ (k : ℕ). Number text k w.end w.number_is) x w.number) in
          subst (λ (k : ℕ). k < 2) (number_same text n.is z) w.small

      pub small_power : {j : ℕ} → Longest text exponent e j → value (radix n.of) n.bytes < 2 → SmallPower text i j
      small_power l h =
          record {
            start = p;
            end = e;
            before = to_spaced text 0x2A (symbol f);
            number_is = value (radix n.of) n.bytes;
            number = (n.of, valued text n.is);
            small = h;
            behind = l.takes;
          }
