-- Segments of a quoted text, and the text. Assumes nothing.
use mathlib.Core.Path.{◌≡◌, refl, subst, sym}
use mathlib.Core.Logic.{⊎_elim}
use mathlib.Core.Bool.{Bool, true, false, ◌||◌}
use mathlib.Core.List.{List}
use Prim.Native.Nat.{ℕ, ◌+◌, ◌≤◌}
use native.Mathlib.Omega.{arith}
use lib.ListN.{get_or}
use Rattle.rules.specs.Test.{Says}
use Rattle.rules.specs.Rule.{one, ◌then◌, many, lit, Takes, nothing, byte, both, left, right, stop, more, At, Longest, Fails, Among}
use Rattle.rules.proofs.Bools.{or_cases, or_left, or_right}
use Rattle.rules.proofs.Classes.{apart, apart_span, apart_no}
use Rattle.rules.proofs.Matches.{forward, starting, one_at, move_at, fails_first}
use Rattle.rules.proofs.Chains.{snoc, each, reaches}
use Rattle.rules.proofs.Ways.{never_takes}
use Rattle.std.specs.Prelude.{Option, Some, None}
use Rattle.lexicon.specs.declared.Literal.{Literal}
use Rattle.lexicon.specs.Found.{Judges}
use Rattle.lexicon.specs.Space.{Skips}
use Rattle.lexicon.specs.Literals.{plain_byte, unescaped, content, segment, quoted}
use Rattle.lexicon.specs.Bad.{BadEscape, BadSegment, BadFurther, BadQuoted, in_first, in_further}
use Rattle.lexicon.proofs.Segments.{quote, further, segment_begins, segment_single, space_ends, further_rest, further_single, bad_takes}
use Rattle.string.specs.Parts.{plain_rest, item, escaped_rest, BadRest}
use Rattle.rules.proofs.Tests.{says_no}
use Rattle.string.proofs.Among.{Strict, place, found, kept, none_among, which, said_on}
use Rattle.rules.proofs.Closed.{closes}
use Rattle.string.proofs.Items.{backslash, backslash_unescaped, quote_item, item_single, item_strict, strict_of}
use Rattle.string.proofs.Escapes.{character_good}

quote_backslash : apart quote backslash ≡ true
unfolding apart apart_span
quote_backslash = refl

module _ (text : List ℕ) where
  -- ---- the rest of a segment behind its opening quote

  -- a first backslash makes it an escaped one
  to_escaped : {m j : ℕ} → At text backslash m → Takes text (content then lit "\"") m j → Takes text escaped_rest (m + 1) j
  to_escaped b (both (left (left (both t u))) q) = absurd (never_takes text backslash unescaped backslash_unescaped b t)
  to_escaped {m} b (both (left (right (nothing e))) (byte a f)) =
      absurd (apart_no quote backslash (get_or text m 0) quote_backslash (move_at text quote (sym e) a).1 b.1)
  to_escaped b (both (right (both (byte a e) t)) q) = both (starting e t) q

  of_escaped : {m j : ℕ} → At text backslash m → Takes text escaped_rest (m + 1) j → Takes text (content then lit "\"") m j
  of_escaped b (both t q) = both (right (both (byte b refl) t)) q

  -- without one it is a plain one
  to_plain : {m j : ℕ} → (At text backslash m → ⊥) → Takes text (content then lit "\"") m j → Takes text plain_rest m j
  to_plain n (both (left (left (both t u))) q) = both (more (left t) u) q
  to_plain n (both (left (right (nothing e))) q) = both (stop e) q
  to_plain n (both (right (both (byte a e) t)) q) = absurd (n a)

  of_plain : {m j : ℕ} → (At text backslash m → ⊥) → Takes text plain_rest m j → Takes text (content then lit "\"") m j
  of_plain n (both (stop e) q) = both (left (right (nothing e))) q
  of_plain n (both (more (left t) u) q) = both (left (left (both t u))) q
  of_plain n (both (more (right (byte a e)) u) q) = absurd (n a)

  -- a run of plain bytes is a row of items, none of which is bad
  pub plain_items : {i j : ℕ} → Takes text (many (one plain_byte)) i j → Takes text (many item) i j
  plain_items c = each (λ _ _ t. left (left t)) c

  pub plain_said : {i j k : ℕ} {bad : Bool} → Takes text (many item) i j → Takes text (many (one plain_byte)) j k → Says bad (Among text item (BadEscape text) i j) → Says bad (Among text item (BadEscape text) i k)
  plain_said {i} {bad = bad} t (stop e) y = subst (λ (x : ℕ). Says bad (Among text item (BadEscape text) i x)) e y
  plain_said t (more s c) y =
      plain_said (snoc t (left (left s))) c
      (said_on text item (BadEscape text) item_single item_strict t (left (left s)) y (character_good text (left s)))

  -- a row of items that has come to the closing quote
  pub rest_judged : {i j : ℕ} {bad : Bool} → Takes text (many item) i j → At text quote j → Says bad (Among text item (BadEscape text) i j) → Judges text escaped_rest (BadRest text) i (Some (record { end = j + 1; bad = bad }))
  rest_judged {i} {j} {bad} t a y = (
    closes item quote item_single quote_item t a,
    record {
      true_holds = λ e. record { end = j; content = y.true_holds e; behind = one_at a };
      holds_true = λ b. back b.content b.behind;
    },
  )
    where
      back : {e : ℕ} → Among text item (BadEscape text) i e → Takes text (lit "\"") e (j + 1) → bad ≡ true
      back {e} c (byte b f) = let h : e ≡ j = omega arith in y.holds_true (place (Among text item (BadEscape text)) refl h c)

  -- ---- a segment

  segment_rest : {i j : ℕ} → Takes text segment i j → Takes text (content then lit "\"") (i + 1) j
  segment_rest (both (byte a e) t) = starting e t

  pub no_segment : {i : ℕ} → (At text quote i → ⊥) → Fails text segment i
  no_segment n = record { none = λ t. n (segment_begins text t) }

  bad_rest : {i j : ℕ} → BadSegment text i j → At text backslash (i + 1) × BadRest text (i + 2) j
  bad_rest b = go b.before b.content b.behind
    where
      go : {i s e j : ℕ} → Takes text (lit "\"\\") i s → Among text item (BadEscape text) s e → Takes text (lit "\"") e j → At text backslash (i + 1) × BadRest text (i + 2) j
      go {i} {s} {e} (both (byte a f) (byte b g)) c q =
          let h : s ≡ i + 2 = omega arith in
          (move_at text backslash f b, record { end = e; content = subst (λ (x : ℕ). Among text item (BadEscape text) x e) h c; behind = q })

  rest_bad : {i j : ℕ} → At text quote i → At text backslash (i + 1) → BadRest text (i + 2) j → BadSegment text i j
  rest_bad {i} a b r =
      let h : i + 2 ≡ i + 1 + 1 = omega arith in
      record { start = i + 2; end = r.end; before = both (byte a refl) (byte b h); content = r.content; behind = r.behind }

  -- the answer for the rest of an escaped one
  pub segment_escaped : (i : ℕ) (r : Option Literal) → At text quote i → At text backslash (i + 1) → Judges text escaped_rest (BadRest text) (i + 2) r → Judges text segment (BadSegment text) i r
  segment_escaped i (Some l) a b y = (
    record {
      takes = both (byte a refl) (of_escaped b (starting (omega arith) y.0.takes));
      most = λ t. y.0.most (starting (omega arith) (to_escaped b (segment_rest t)));
    },
    record { true_holds = λ e. rest_bad a b (y.1.true_holds e); holds_true = λ s. y.1.holds_true (bad_rest s).1 },
  )
  segment_escaped i None a b f =
      record { none = λ t. f.none (starting (omega arith) (to_escaped b (segment_rest t))) }

  -- and of a plain one
  pub segment_plain : (i j : ℕ) → At text quote i → (At text backslash (i + 1) → ⊥) → Longest text plain_rest (i + 1) j → Judges text segment (BadSegment text) i (Some (record { end = j; bad = false }))
  segment_plain i j a n l = (
    record { takes = both (byte a refl) (of_plain n l.takes); most = λ t. l.most (to_plain n (segment_rest t)) },
    says_no (λ s. n (bad_rest s).0),
  )

  pub segment_open : (i : ℕ) → (At text backslash (i + 1) → ⊥) → Fails text plain_rest (i + 1) → Fails text segment i
  segment_open i n f = record { none = λ t. f.none (to_plain n (segment_rest t)) }

  -- ---- a further segment

  pub further_strict : Strict text further
  further_strict = strict_of further refl

  bad_further_lem : {i s j : ℕ} → Skips text i s → BadFurther text i j → BadSegment text s j
  bad_further_lem {j = j} y b =
      subst (λ (x : ℕ). BadSegment text x j) (space_ends text b.before (bad_takes text b.bad) y) b.bad

  pub further_judged : (i s : ℕ) (r : Option Literal) → Skips text i s → Judges text segment (BadSegment text) s r → Judges text further (BadFurther text) i r
  further_judged i s (Some l) p y = (
    record { takes = both p.takes y.0.takes; most = λ t. y.0.most (further_rest text p t) },
    record {
      true_holds = λ e. record { start = s; before = p.takes; bad = y.1.true_holds e };
      holds_true = λ b. y.1.holds_true (bad_further_lem p b);
    },
  )
  further_judged i s None p f = record { none = λ t. f.none (further_rest text p t) }

  -- ---- the text

  pub no_quoted : {i : ℕ} → Fails text segment i → Fails text quoted i
  no_quoted f = fails_first f

  module _ {i m : ℕ} (first : Takes text segment i m) where
    pub first_same : {k : ℕ} → Takes text segment i k → k ≡ m
    first_same t = (segment_single text).same t first

    quoted_ends : {j : ℕ} → Takes text (many further) m j → Fails text further j → Longest text quoted i j
    quoted_ends {j} c f = record { takes = both first c; most = go }
      where
        go : {k : ℕ} → Takes text quoted i k → k ≤ j
        go (both t u) = forward (reaches (further_single text) c f (starting (first_same t) u))

    -- nothing but the first segment
    first_said : {b : Bool} → Says b (BadSegment text i m) → Says b (BadQuoted text i m)
    first_said {b} y = record { true_holds = λ e. in_first (y.true_holds e) (stop refl); holds_true = λ q. go q refl }
      where
        go : {k : ℕ} → BadQuoted text i k → k ≡ m → b ≡ true
        go (in_first s t) e = y.holds_true (place (BadSegment text) refl (first_same (bad_takes text s)) s)
        go (in_further t a) e =
            absurd (none_among text further (BadFurther text) (further_single text) further_strict
            (place (Among text further (BadFurther text)) (first_same t) e a))

    -- one more segment
    next_said : {j k : ℕ} {b c : Bool} → Takes text (many further) m j → Takes text further j k → Says b (BadQuoted text i j) → Says c (BadFurther text j k) → Says (b || c) (BadQuoted text i k)
    next_said {j} {k} {b} {c} t s y z =
        record { true_holds = λ e. ⊎_elim (λ x. more_bad (y.true_holds x) s) (λ x. in_further first (found t s (z.true_holds x))) (or_cases b c e); holds_true = back }
      where
        more_bad : {j k : ℕ} → BadQuoted text i j → Takes text further j k → BadQuoted text i k
        more_bad (in_first x u) s = in_first x (snoc u s)
        more_bad (in_further x a) s = in_further x (kept a s)

        back : BadQuoted text i k → (b || c) ≡ true
        back (in_first x u) = or_left b c (y.holds_true (in_first (place (BadSegment text) refl (first_same (bad_takes text x)) x) t))
        back (in_further x a) =
            ⊎_elim (λ p. or_left b c (y.holds_true (in_further first p))) (λ p. or_right b c (z.holds_true p))
            (which text further (BadFurther text) (further_single text) further_strict t s
            (place (Among text further (BadFurther text)) (first_same x) refl a))

  pub segment_strict : Strict text segment
  segment_strict = strict_of segment refl

  -- ---- the segments so far

  pub record Going (at end : ℕ) (bad : Bool) : Type 0 where
    pub first : ℕ
    pub start : Takes text segment at first
    pub row : Takes text (many further) first end
    pub says : Says bad (BadQuoted text at end)

  pub going_starts : {at : ℕ} {l : Literal} → Judges text segment (BadSegment text) at (Some l) → Going at l.end l.bad
  going_starts y = record { first = _; start = y.0.takes; row = stop refl; says = first_said y.0.takes y.1 }

  pub going_on : {at end next : ℕ} {bad : Bool} {l : Literal} → Going at end bad → Skips text end next → Judges text segment (BadSegment text) next (Some l) →
      Going at l.end (bad || l.bad)
  going_on {end = end} {next} {l = l} g p y =
      let z = further_judged end next (Some l) p y in
      record { first = g.first; start = g.start; row = snoc g.row z.0.takes; says = next_said g.start g.row z.0.takes g.says z.1 }

  pub going_ends : {at end next : ℕ} {bad : Bool} → Going at end bad → Skips text end next → Fails text segment next →
      Judges text quoted (BadQuoted text) at (Some (record { end = end; bad = bad }))
  going_ends {end = end} {next} g p f = (quoted_ends g.start g.row (further_judged end next None p f), g.says)
