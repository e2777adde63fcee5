-- Escapes, characters and backslashes: what each answer says of the part it belongs to. Assumes nothing.
use mathlib.Core.Path.{◌≡◌, refl, subst, subst⁻¹, sym, ◌∙◌}
use mathlib.Core.Logic.{⊎_elim}
use mathlib.Core.Bool.{Bool, true, false, ◌&&◌, false≢true}
use mathlib.Core.List.{List, [], ◌∷◌}
use Prim.Native.Nat.{ℕ, ◌+◌, ◌≤◌, ◌<◌}
use native.Mathlib.Nat.{le_antisymm}
use native.Mathlib.Omega.{arith}
use lib.Dec.{leb}
use lib.ListN.{length, get_or}
use Rattle.rules.specs.Test.{Says}
use Rattle.rules.specs.Class.{In, has, just, any_in, codes}
use Rattle.rules.specs.Rule.{one, ◌then◌, ◌or◌, lit, Takes, byte, both, left, right, At, Longest, Fails}
use Rattle.rules.proofs.Bools.{or_cases, or_left}
use Rattle.rules.proofs.Classes.{apart_no, is_just, just_is}
use Rattle.rules.proofs.Matches.{starting, one_at, move_at, fails_first}
use Rattle.rules.proofs.Ways.{never_takes}
use Rattle.std.proofs.Common.{Option, Some, None}
use Rattle.std.specs.Bool.{then_some}
use Rattle.lexicon.specs.declared.Literal.{Literal}
use Rattle.lexicon.specs.Found.{Judges}
use Rattle.lexicon.specs.Literals.{unescaped, restricted, escape_letter, escape, code_point_of}
use Rattle.lexicon.specs.Values.{Letter}
use Rattle.lexicon.specs.Bad.{BadCode, BadEscape}
use Rattle.string.specs.Parts.{angled, BadAngled, item}
use Rattle.rules.proofs.Tests.{says_no, there, not_there}
use Rattle.string.proofs.Among.{place}
use Rattle.rules.proofs.Closed.{agree}
use Rattle.lexicon.proofs.Marks.{angle_most}
use Rattle.string.proofs.Items.{backslash, backslash_unescaped, letter_angle, escape_single, restricted_single}

abbrev angle : ℕ
angle = 0x3C

-- the letters are those that stand for a character
letter_in : {x v : ℕ} → Letter x v → In escape_letter x
unfolding has
letter_in Letter.quotation_mark = refl
letter_in Letter.grave_accent = refl
letter_in Letter.reverse_solidus = refl
letter_in Letter.tab = refl
letter_in Letter.line_feed = refl
letter_in Letter.carriage_return = refl

-- a byte that is none of these is in no class of them
abbrev pub NoneOf : List ℕ → ℕ → Type 0
NoneOf [] x = Unit {0}
NoneOf (b ∷ bs) x = (x ≡ b → ⊥) × NoneOf bs x

none_in_lem : (bs : List ℕ) (x : ℕ) → NoneOf bs x → In (any_in bs) x → ⊥
unfolding has
none_in_lem [] x n i = false≢true i
none_in_lem (b ∷ bs) x n i =
    ⊎_elim (λ e. n.0 (just_is b x (or_left _ false e))) (λ e. none_in_lem bs x n.1 e) (or_cases (leb b x && leb x b) (has (any_in bs) x) i)

module _ (text : List ℕ) where
  -- ---- the rest of an escape by number

  unclosed : {i e : ℕ} → Longest text code_point_of i e → (At text (just 0x3E) e → ⊥) → Fails text angled i
  unclosed {i} {e} l n = record { none = go }
    where
      go : {k : ℕ} → Takes text angled i k → ⊥
      go (both t (byte a f)) = n (move_at text (just 0x3E) (le_antisymm (l.most t) (angle_most t a l.takes)) a)

  angled_judged : (i e : ℕ) (bad : Bool) → Judges text code_point_of (BadCode text) i (Some (record { end = e; bad = bad })) → At text (just 0x3E) e → Judges text angled (BadAngled text) i (Some (record { end = e + 1; bad = bad }))
  angled_judged i e bad y a = (record { takes = both y.0.takes (one_at a); most = most }, record { true_holds = λ q. record { end = e; code = y.1.true_holds q; behind = one_at a }; holds_true = λ b. back b.code b.behind })
    where
      most : {k : ℕ} → Takes text angled i k → k ≤ e + 1
      most (both t (byte b f)) = let x = y.0.most t in omega arith

      back : {d : ℕ} → BadCode text i d → Takes text (lit ">") d (e + 1) → bad ≡ true
      back {d} c (byte b f) = let h : d ≡ e = omega arith in y.1.holds_true (place (BadCode text) refl h c)

  pub angled_none : {i : ℕ} → Judges text code_point_of (BadCode text) i None → Fails text angled i
  angled_none f = fails_first f

  pub angled_found : (i : ℕ) (l : Literal) {o : Bool} → Judges text code_point_of (BadCode text) i (Some l) → Says o (Takes text (one (just 0x3E)) l.end (l.end + 1)) →
      Judges text angled (BadAngled text) i (then_some o (record { end = l.end + 1; bad = l.bad }))
  angled_found i l {o = true} y s = angled_judged i l.end l.bad y (there s refl)
  angled_found i l {o = false} y s = unclosed y.0 (not_there s refl)

  -- ---- an escape

  escape_rest : {i j : ℕ} → Takes text escape i j → Takes text (one escape_letter or lit "<" then angled) (i + 1) j
  escape_rest (both (byte a e) t) = starting e t

  pub no_escape : {i : ℕ} → (At text backslash i → ⊥) → Fails text escape i
  no_escape {i} n = record { none = go }
    where
      go : {k : ℕ} → Takes text escape i k → ⊥
      go (both (byte a e) t) = n a

  pub unknown_escape : (i : ℕ) → (At text escape_letter (i + 1) → ⊥) → (At text (just angle) (i + 1) → ⊥) → Fails text escape i
  unknown_escape i n m = record { none = λ t. go (escape_rest t) }
    where
      go : {k : ℕ} → Takes text (one escape_letter or lit "<" then angled) (i + 1) k → ⊥
      go (left (byte a e)) = n a
      go (right (both (byte a e) t)) = m a

  -- a bad one is one by number
  bad_angled : {i j : ℕ} → BadEscape text i j → At text (just angle) (i + 1) × BadAngled text (i + 2) j
  bad_angled b = go b.before b.code b.behind
    where
      go : {i s e j : ℕ} → Takes text (lit "\\<") i s → BadCode text s e → Takes text (lit ">") e j → At text (just angle) (i + 1) × BadAngled text (i + 2) j
      go {i} {s} {e} (both (byte a f) (byte b g)) c q =
          let h : s ≡ i + 2 = omega arith in
          (move_at text (just angle) f b, record { end = e; code = place (BadCode text) h refl c; behind = q })

  pub letter_judged : (i : ℕ) → At text backslash i → At text escape_letter (i + 1) → Judges text escape (BadEscape text) i (Some (record { end = i + 2; bad = false }))
  letter_judged i a l =
      let h : i + 2 ≡ i + 1 + 1 = omega arith in (
        agree escape_single (both (one_at a) (left (byte l h))),
        says_no (λ b. apart_no escape_letter (just angle) (get_or text (i + 1) 0) letter_angle l.1 (bad_angled b).0.1),
      )

  pub angle_judged : (i : ℕ) (r : Option Literal) → At text backslash i → At text (just angle) (i + 1) → Judges text angled (BadAngled text) (i + 2) r → Judges text escape (BadEscape text) i r
  angle_judged i r a g y = go r y
    where
      h : i + 2 ≡ i + 1 + 1
      h = omega arith

      rest : {k : ℕ} → Takes text (one escape_letter or lit "<" then angled) (i + 1) k → Takes text angled (i + 2) k
      rest (left (byte b e)) = absurd (apart_no escape_letter (just angle) (get_or text (i + 1) 0) letter_angle b.1 g.1)
      rest (right (both (byte b e) t)) = starting (e ∙ sym h) t

      go : (r : Option Literal) → Judges text angled (BadAngled text) (i + 2) r → Judges text escape (BadEscape text) i r
      go (Some l) y = (
        record { takes = both (one_at a) (right (both (byte g h) y.0.takes)); most = λ t. y.0.most (rest (escape_rest t)) },
        record {
          true_holds = λ q.
              let b = y.1.true_holds q in
              record { start = i + 2; end = b.end; before = both (one_at a) (byte g h); code = b.code; behind = b.behind };
          holds_true = λ b. y.1.holds_true (bad_angled b).1;
        },
      )
      go None f = record { none = λ t. f.none (rest (escape_rest t)) }

  -- ---- an item of an escaped segment: a character, or else an escape

  escape_begins : {i j : ℕ} → Takes text (lit "\\<") i j → At text backslash i
  escape_begins (both (byte a e) t) = a

  -- a character is no bad one
  pub character_good : {i j k : ℕ} → Takes text unescaped i j → BadEscape text i k → ⊥
  character_good t b = never_takes text backslash unescaped backslash_unescaped (escape_begins b.before) t

  pub item_character : (i j : ℕ) → Longest text unescaped i j → Judges text item (BadEscape text) i (Some (record { end = j; bad = false }))
  item_character i j l = (record { takes = left l.takes; most = most }, says_no (character_good l.takes))
    where
      most : {k : ℕ} → Takes text item i k → k ≤ j
      most (left t) = l.most t
      most (right (both (byte a e) t)) = absurd (never_takes text backslash unescaped backslash_unescaped a l.takes)

  pub no_character : {i : ℕ} → At text backslash i → Fails text unescaped i
  no_character a = record { none = never_takes text backslash unescaped backslash_unescaped a }

  pub item_escape : (i : ℕ) (r : Option Literal) → Fails text unescaped i → Judges text escape (BadEscape text) i r → Judges text item (BadEscape text) i r
  item_escape i r f y = go r y
    where
      esc : {k : ℕ} → Takes text item i k → Takes text escape i k
      esc (left t) = absurd (f.none t)
      esc (right t) = t

      go : (r : Option Literal) → Judges text escape (BadEscape text) i r → Judges text item (BadEscape text) i r
      go (Some l) y = (record { takes = right y.0.takes; most = λ t. y.0.most (esc t) }, y.1)
      go None n = record { none = λ t. n.none (esc t) }

  -- ---- of a plain one: a character, or else a backslash

  pub plain_character : {i j : ℕ} → Longest text unescaped i j → Longest text restricted i j
  plain_character l = agree restricted_single (left l.takes)

  pub plain_backslash : {i : ℕ} → At text backslash i → Longest text restricted i (i + 1)
  plain_backslash a = agree restricted_single (right (one_at a))

  no_plain : {i : ℕ} → Fails text unescaped i → (At text backslash i → ⊥) → Fails text restricted i
  no_plain {i} f n = record { none = go }
    where
      go : {k : ℕ} → Takes text restricted i k → ⊥
      go (left t) = f.none t
      go (right (byte a e)) = n a

  -- ---- what each way through the code of an escape says

  module _ (i : ℕ) {o : Bool} (s : Says o (Takes text (one backslash) i (i + 1))) (e : o ≡ true) where
    pub by_letter : {x v b : ℕ} → (i + 1 < length text) × (b ≡ get_or text (i + 1) 0) → Letter x v → b ≡ x → Judges text escape (BadEscape text) i (Some (record { end = i + 2; bad = false }))
    by_letter g l f = letter_judged i (there s e) (g.0, subst (λ (y : ℕ). In escape_letter y) (sym f ∙ g.1) (letter_in l))

    pub by_angle : {b : ℕ} (r : Option Literal) → (i + 1 < length text) × (b ≡ get_or text (i + 1) 0) → b ≡ angle → Judges text angled (BadAngled text) (i + 2) r → Judges text escape (BadEscape text) i r
    by_angle r g f y = angle_judged i r (there s e) (g.0, is_just angle (get_or text (i + 1) 0) (sym g.1 ∙ f)) y

  pub by_none : (i : ℕ) {o : Bool} → Says o (Takes text (one backslash) i (i + 1)) → o ≡ false → Fails text escape i
  by_none i s e = no_escape (not_there s e)

  pub by_end : (i : ℕ) → length text ≤ i + 1 → Fails text escape i
  by_end i h = unknown_escape i (λ a. omega (arith, a.0)) (λ a. omega (arith, a.0))

  pub by_other : (i : ℕ) {b : ℕ} → b ≡ get_or text (i + 1) 0 → NoneOf (codes "qgbtnr") b → (b ≡ angle → ⊥) → Fails text escape i
  by_other i e n m =
      unknown_escape i (λ a. none_in_lem (codes "qgbtnr") _ n (subst⁻¹ (λ (x : ℕ). In escape_letter x) e a.1)) (λ a. m (e ∙ just_is angle (get_or text (i + 1) 0) a.1))

  -- ---- and through that of a character or a backslash

  pub or_backslash : {i : ℕ} → Fails text unescaped i → {o : Bool} → Says o (Takes text (one backslash) i (i + 1)) → o ≡ false → Fails text restricted i
  or_backslash f s e = no_plain f (not_there s e)
