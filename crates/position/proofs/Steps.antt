-- One step of each loop, over a byte of a line and over a character; and what both tell. Assumes nothing.
use mathlib.Core.Path.{◌≡◌, refl, sym, subst}
use mathlib.Core.List.{List}
use Prim.Native.Nat.{ℕ, min, ◌+◌, ◌<◌}
use native.Mathlib.Omega.{arith}
use lib.ListN.{length, get_or}
use Rattle.std.specs.Prelude.{Option, Some, None, unwrap_or}
use Rattle.rules.specs.Rule.{byte, Fails}
use Rattle.rules.proofs.Classes.{is_just, just_is}
use Rattle.rules.proofs.Matches.{byte_at}
use Rattle.lexicon.specs.Found.{Finds}
use Rattle.lexicon.specs.Utf8.{sequence}
use Rattle.values.specs.Position.{Lines, next, same, Character, encoded, single, Characters, more, Before, Position, stands}

module _ {text : List ℕ} where
  placed : {i j l m b c : ℕ} → i ≡ j → l ≡ m → b ≡ c → Lines text i l b → Lines text j m c
  placed {i} {j} {l} {m} {b} {c} e f g x =
      subst (λ (y : ℕ). Lines text j m y) g (subst (λ (y : ℕ). Lines text j y b) f (subst (λ (y : ℕ). Lines text y l b) e x))

  -- behind a byte 0A the next line begins
  pub line_feed_lem : {i l m b c : ℕ} → Lines text i l b → i < length text → get_or text i 0 ≡ 0x0A → m ≡ l + 1 → c ≡ i + 1 → Lines text (i + 1) m c
  line_feed_lem x h q e f = placed (omega arith) (omega (arith, e)) (sym f) (next x (byte (h, is_just 0x0A _ q) refl))

  -- behind any other it goes on
  pub line_goes_on : {i l m b c : ℕ} → Lines text i l b → i < length text → (get_or text i 0 ≡ 0x0A → ⊥) → m ≡ l → c ≡ b → Lines text (i + 1) m c
  line_goes_on x h n e f =
      placed (omega arith) (sym e) (sym f) (same x h (record { none = λ t. n (just_is 0x0A _ (byte_at t).1) }))

  single_byte : {i : ℕ} → i < length text → Fails text sequence i → Character text i (i + 1)
  single_byte {i} h f = subst (Character text i) (omega arith) (single h f)

  -- the character at a place, by what the search for a sequence there answers
  pub character_at : {i j : ℕ} (f : Option ℕ) → i < length text → Finds text sequence i f → j ≡ unwrap_or f (i + 1) → Character text i j
  character_at {i} {j} f h s e = subst (Character text i) (sym e) (go f s)
    where
      go : (f : Option ℕ) → Finds text sequence i f → Character text i (unwrap_or f (i + 1))
      go (Some k) l = encoded l.takes
      go None n = single_byte h n

  pub one_further : {b i j n : ℕ} → Characters text b i n → Character text i j → Characters text b j (n + 1)
  one_further {b} {j = j} x c = subst (Characters text b j) (omega arith) (more x c)

  -- ---- both together

  pub told : {p e l b n : ℕ} → e ≡ min p (length text) → Lines text e l b → Before text b e n → Position text p l (n + 1)
  told {p} q x y = subst (Position text p _) (omega arith) (stands q x y)
