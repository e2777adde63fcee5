-- What a byte says of dividing space: it is blank, it is none, or it opens a comment, which ends at its closer or nowhere.
-- Assumes nothing.
use mathlib.Core.Path.{◌≡◌, refl, sym, subst}
use mathlib.Core.Logic.{inl, inr, ⊎_elim}
use mathlib.Core.List.{List, [], ◌∷◌}
use Prim.Native.Nat.{ℕ, ◌+◌, ◌≤◌, ◌<◌}
use native.Mathlib.Omega.{arith}
use borrow.Author.Tests.{leb-true, leb-false}
use types.Run.{OneOf}
use lib.Dec.{leb}
use lib.ListN.{length, get_or}
use Rattle.rules.specs.Class.{◌upto◌, just, any_in, has, In}
use Rattle.rules.specs.Rule.{one, many, Takes, byte, both, left, right, Fails}
use Rattle.rules.proofs.Bools.{decide}
use Rattle.rules.proofs.Classes.{apart, apart_span, apart_no, just_is, in_cons, in_first_lem, in_later}
use Rattle.rules.proofs.Matches.{starting}
use Rattle.rules.proofs.Ways.{never}
use Rattle.rules.proofs.Closed.{never_closes}
use Rattle.lexicon.specs.Bytes.{dividing}
use Rattle.lexicon.specs.Space.{grave, not_grave, blank}
use Rattle.lexicon.proofs.Spaces.{byte_single}
use Rattle.text.proofs.Searches.{fails_end}

-- the dividing bytes as `space` tells them: a tab or a newline, or one of the two others
divides_low : (b : ℕ) → 0x09 ≤ b → b < 0x0B → In dividing b
divides_low b l h =
    ⊎_elim (λ e. in_first_lem 0x09 0x09 (any_in (0x0A ∷ 0x0D ∷ 0x20 ∷ [])) b l (leb-true b 0x09 e))
    (λ e.
    in_later 0x09 0x09 (any_in (0x0A ∷ 0x0D ∷ 0x20 ∷ [])) b
    (in_first_lem 0x0A 0x0A (any_in (0x0D ∷ 0x20 ∷ [])) b (leb-false b 0x09 e) (omega arith)))
    (decide (leb b 0x09))

divides_key : (b : ℕ) → OneOf (0x0D ∷ 0x20 ∷ []) b → In dividing b
unfolding has
divides_key b (inl e) = subst (In dividing) (sym e) refl
divides_key b (inr e) = subst (In dividing) (sym e) refl

-- and no other byte divides
no_other : (b : ℕ) → (0x09 ≤ b → b < 0x0B → ⊥) → (OneOf (0x0D ∷ 0x20 ∷ []) b → ⊥) → In dividing b → ⊥
no_other b low key d =
    ⊎_elim (λ x. let e = just_is 0x09 b x in low (omega arith) (omega arith))
    (λ c.
    ⊎_elim (λ x. let e = just_is 0x0A b x in low (omega arith) (omega arith))
    (λ f. key (⊎_elim (λ x. inl (just_is 0x0D b x)) (λ x. inr (just_is 0x20 b x)) (in_cons (0x0D upto 0x0D) (just 0x20) b f)))
    (in_cons (0x0A upto 0x0A) (any_in (0x0D ∷ 0x20 ∷ [])) b c))
    (in_cons (0x09 upto 0x09) (any_in (0x0A ∷ 0x0D ∷ 0x20 ∷ [])) b d)

module _ {text : List ℕ} where
  pub blank_low : (i : ℕ) → i < length text → 0x09 ≤ get_or text i 0 → get_or text i 0 < 0x0B → Takes text blank i (i + 1)
  blank_low i h l m = left (byte (h, divides_low (get_or text i 0) l m) refl)

  pub blank_key : (i : ℕ) → i < length text → OneOf (0x0D ∷ 0x20 ∷ []) (get_or text i 0) → Takes text blank i (i + 1)
  blank_key i h k = left (byte (h, divides_key (get_or text i 0) k) refl)

  pub no_blank : (i : ℕ) → (0x09 ≤ get_or text i 0 → get_or text i 0 < 0x0B → ⊥) → (OneOf (0x0D ∷ 0x20 ∷ []) (get_or text i 0) → ⊥) → (get_or text i 0 ≡ 0x60 → ⊥) → Fails text blank i
  no_blank i low key n = record { none = go }
    where
      go : {k : ℕ} → Takes text blank i k → ⊥
      go (left (byte a x)) = no_other (get_or text i 0) low key a.1
      go (right (both (byte a x) u)) = n (just_is 0x60 (get_or text i 0) a.1)

  pub no_blank_end : {i : ℕ} → length text ≤ i → Fails text blank i
  no_blank_end h = fails_end refl h

  -- ---- a comment

  pub comment_blank : {i j : ℕ} → Takes text (one grave) i (i + 1) → Takes text (many (one not_grave)) (i + 1) j → Takes text (one grave) j (j + 1) → Takes text blank i (j + 1)
  comment_blank o b c = right (both o (both b c))

  -- where the bytes behind a grave accent run to the end of the text, none of them closes the comment
  pub lone_grave : {i j : ℕ} → Takes text (one grave) i (i + 1) → Takes text (many (one not_grave)) (i + 1) j → length text ≤ j → Fails text blank i
  unfolding never apart apart_span
  lone_grave {i} {j} (byte o x) b h = record { none = go }
    where
      go : {k : ℕ} → Takes text blank i k → ⊥
      go (left (byte d y)) = apart_no dividing grave (get_or text i 0) refl d.1 o.1
      go (right (both (byte a e) t)) =
          (never_closes (one not_grave) grave (byte_single not_grave) refl b (fails_end refl h) (λ g. omega (arith, g.0))).none (starting e t)
