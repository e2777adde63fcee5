-- What stands between quotes: characters, escapes, backslashes. Each has one match at most from a place, takes a byte at least
-- and does not begin with a quote. Assumes nothing.
use mathlib.Core.Path.{◌≡◌, refl, sym, ◌∙◌}
use mathlib.Core.Bool.{true, false}
use mathlib.Core.List.{List}
use Prim.Native.Nat.{ℕ}
use native.Mathlib.Omega.{arith}
use lib.ListN.{get_or}
use Rattle.rules.specs.Class.{Class, just}
use Rattle.rules.specs.Rule.{Rule, one, ◌then◌, ◌or◌, lit, Takes, byte, both, left, right, At}
use Rattle.rules.proofs.Classes.{apart, apart_span, apart_no}
use Rattle.rules.proofs.Matches.{starting}
use Rattle.rules.proofs.Chains.{Single}
use Rattle.rules.proofs.Ways.{nullable, never, never_takes, covers, single, grows}
use Rattle.lexicon.specs.Literals.{unescaped, restricted, escape_letter, escape, code_point_of}
use Rattle.lexicon.proofs.Marks.{angle_same}
use Rattle.lexicon.proofs.Segments.{quote}
use Rattle.string.specs.Parts.{item}
use Rattle.string.proofs.Among.{Strict}

abbrev pub backslash : Class
backslash = just 0x5C

pub backslash_unescaped : never backslash unescaped ≡ true
unfolding never apart apart_span
backslash_unescaped = refl

pub letter_angle : apart escape_letter (just 0x3C) ≡ true
unfolding apart apart_span
letter_angle = refl

unescaped_covers : covers 5 unescaped unescaped ≡ true
unfolding covers apart apart_span
unescaped_covers = refl

pub quote_restricted : never quote restricted ≡ true
unfolding never apart apart_span
quote_restricted = refl

pub quote_item : never quote item ≡ true
unfolding never apart apart_span
quote_item = refl

module _ {text : List ℕ} where
  -- a rule that takes no empty text takes a byte at least
  pub strict_of : (r : Rule) → nullable r ≡ false → Strict text r
  strict_of r n = record { less = λ t. grows r n t }

  pub unescaped_single : Single text unescaped
  unescaped_single = single 5 unescaped_covers

  pub restricted_single : Single text restricted
  restricted_single = record { same = go }
    where
      go : {i j k : ℕ} → Takes text restricted i j → Takes text restricted i k → j ≡ k
      go (left t) (left u) = unescaped_single.same t u
      go (left t) (right (byte a e)) = absurd (never_takes text backslash unescaped backslash_unescaped a t)
      go (right (byte a e)) (left u) = absurd (never_takes text backslash unescaped backslash_unescaped a u)
      go (right (byte a e)) (right (byte b f)) = omega arith

  pub escape_single : Single text escape
  escape_single = record { same = go }
    where
      second : {i j k : ℕ} → Takes text (one escape_letter or lit "<" then code_point_of then lit ">") i j → Takes text (one escape_letter or lit "<" then code_point_of then lit ">") i k → j ≡ k
      second (left (byte a e)) (left (byte b f)) = omega arith
      second {i} (left (byte a e)) (right (both (byte b f) u)) = absurd (apart_no escape_letter (just 0x3C) (get_or text i 0) letter_angle a.1 b.1)
      second {i} (right (both (byte b f) u)) (left (byte a e)) = absurd (apart_no escape_letter (just 0x3C) (get_or text i 0) letter_angle a.1 b.1)
      second (right (both (byte a e) (both t (byte c g)))) (right (both (byte b f) (both u (byte d h)))) =
          let x = angle_same t c (starting (f ∙ sym e) u) d in omega arith

      go : {i j k : ℕ} → Takes text escape i j → Takes text escape i k → j ≡ k
      go (both (byte a e) t) (both (byte b f) u) = second t (starting (f ∙ sym e) u)

  escape_begins : {i j : ℕ} → Takes text escape i j → At text backslash i
  escape_begins (both (byte a e) t) = a

  pub item_single : Single text item
  item_single = record { same = go }
    where
      go : {i j k : ℕ} → Takes text item i j → Takes text item i k → j ≡ k
      go (left t) (left u) = unescaped_single.same t u
      go (left t) (right u) = absurd (never_takes text backslash unescaped backslash_unescaped (escape_begins u) t)
      go (right u) (left t) = absurd (never_takes text backslash unescaped backslash_unescaped (escape_begins u) t)
      go (right t) (right u) = escape_single.same t u

  pub restricted_strict : Strict text restricted
  restricted_strict = strict_of restricted refl

  pub item_strict : Strict text item
  item_strict = strict_of item refl
