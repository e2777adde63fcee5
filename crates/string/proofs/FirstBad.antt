-- The first bad escape of a quoted text: the first in the first segment that has one; a walk over the segments meets it. Assumes nothing.
use mathlib.Core.Path.{◌≡◌, refl, subst, sym, ap, ◌∙◌}
use mathlib.Core.Bool.{Bool, true, false, ◌||◌}
use mathlib.Core.List.{List}
use Prim.Native.Nat.{ℕ, ◌+◌, ◌≤◌}
use native.Mathlib.Decide.{ℕ_discrete}
use native.Mathlib.Omega.{arith}
use Rattle.rules.specs.Test.{Says}
use Rattle.rules.specs.Rule.{many, lit, Takes, byte, both, stop, more, At, Longest, Fails, Among}
use Rattle.rules.proofs.Matches.{forward}
use Rattle.rules.proofs.Chains.{move, join, snoc}
use Rattle.rules.proofs.Tests.{refuted}
use Rattle.std.specs.Prelude.{Option, Some, None, is_some}
use Rattle.std.specs.Option.{option_or}
use Rattle.std.specs.Bool.{then_some}
use Rattle.lexicon.specs.declared.Literal.{Literal}
use Rattle.lexicon.specs.Found.{Judges}
use Rattle.lexicon.specs.Space.{Skips}
use Rattle.lexicon.specs.Literals.{segment}
use Rattle.lexicon.specs.Bad.{BadEscape, BadSegment, BadFurther, BadQuoted, in_first, in_further, backslash_of}
use Rattle.lexicon.proofs.Segments.{quote, further, segment_single, space_ends, further_single, bad_takes}
use Rattle.lexicon.proofs.Places.{in_segment_lem, one_first_bad}
use Rattle.string.specs.declared.segment.Walk.{Walk}
use Rattle.string.specs.Parts.{item, plain_rest}
use Rattle.string.specs.FirstBad.{Stops, Points, RestWalked, SegmentWalked, QuotedWalked}
use Rattle.string.proofs.Among.{place, found, said, beyond, at_end_lem}
use Rattle.string.proofs.Items.{backslash, item_single, item_strict}
use Rattle.string.proofs.Segments.{segment_escaped, segment_plain, further_strict, Going, going_starts, going_on, going_ends, no_quoted, first_same, further_judged}

pub none_met : {p : ℕ} → None ≡ Some p → ⊥
none_met e = cc

module _ (text : List ℕ) where
  -- ---- a row of items

  -- a bad item behind a row without one
  pub stops_bad :
      {i j k : ℕ} {bad : Bool} → Takes text (many item) i j → (Among text item (BadEscape text) i j → ⊥) →
      Judges text item (BadEscape text) j (Some (record { end = k; bad = bad })) → bad ≡ true → Stops text i j
  stops_bad c n y e =
      record { row = c; good = n; bad = λ t. place (BadEscape text) refl (item_single.same y.0.takes t) (y.1.true_holds e) }

  -- the row up to i, and the first bad one of it
  abbrev pub Items : (at i : ℕ) → Option ℕ → Type 0
  Items at i f = Takes text (many item) at i × Says (is_some f) (Among text item (BadEscape text) at i) × ((p : ℕ) → f ≡ Some p → Stops text at p)

  -- one item more
  pub items_more :
      {at i j : ℕ} (f : Option ℕ) (worse : Bool) → Items at i f → Judges text item (BadEscape text) i (Some (record { end = j; bad = worse })) →
      Items at j (option_or f (then_some worse i))
  items_more {at} {i} {j} f worse v y =
      let z = said text item (BadEscape text) item_single item_strict v.0 y.0.takes v.1 y.1 in go f worse (snoc v.0 y.0.takes) z v y
    where
      go :
          (f : Option ℕ) (worse : Bool) → Takes text (many item) at j → Says (is_some f || worse) (Among text item (BadEscape text) at j) → Items at i f →
          Judges text item (BadEscape text) i (Some (record { end = j; bad = worse })) → Items at j (option_or f (then_some worse i))
      go (Some q) worse t z v y = (t, z, v.2)
      go None true t z v y = (t, z, λ p e. let here : i ≡ p = cc in subst (Stops text at) here (stops_bad v.0 (refuted v.1 refl) y refl))
      go None false t z v y = (t, z, λ p e. absurd (none_met e))

  -- ---- in a segment

  content_start : {i s : ℕ} → Takes text (lit "\"\\") i s → s ≡ i + 2
  content_start (both (byte a e) (byte b f)) = omega arith

  -- a bad one whose bad escape stands at p
  record SegmentAt (p i j : ℕ) : Type 0 where
    pub is : BadSegment text i j
    pub there : p ≡ is.content.from

  module _ {i p : ℕ} (stops : Stops text (i + 2) p) where
    stops_in : {j : ℕ} (b : BadSegment text i j) → Stops text b.start p
    stops_in b = subst (λ (x : ℕ). Stops text x p) (sym (content_start b.before)) stops

    segment_first : {j : ℕ} → BadSegment text i j → SegmentAt p i j
    segment_first {j} b =
        go (at_end_lem text item (BadEscape text) item_single item_strict s.row s.good (λ k t. (refl, s.bad t)) b.content)
      where
        s : Stops text b.start p
        s = stops_in b

        go : Among text item (λ x y. (p ≡ x) × BadEscape text x y) b.start b.end → SegmentAt p i j
        go a = record {
          is = record {
            start = b.start;
            end = b.end;
            before = b.before;
            content = record { from = a.from; upto = a.upto; before = a.before; match = a.match; holds = a.holds.1; behind = a.behind };
            behind = b.behind;
          };
          there = a.holds.0;
        }

    segment_after : {j : ℕ} (b : BadSegment text i j) → p ≤ b.content.from
    segment_after b =
        let s = stops_in b in let c = b.content in
        forward (beyond text item (BadEscape text) item_single item_strict s.row s.good c.before c.match c.holds)

  -- ---- in a further one

  record FurtherAt (p i j : ℕ) : Type 0 where
    pub is : BadFurther text i j
    pub there : p ≡ is.bad.content.from

  module _ {i s p : ℕ} (skips : Skips text i s) (stops : Stops text (s + 2) p) where
    stops_there : {j : ℕ} (b : BadFurther text i j) → Stops text (b.start + 2) p
    stops_there b =
        subst (λ (x : ℕ). Stops text (x + 2) p) (sym (space_ends text b.before (bad_takes text b.bad) skips)) stops

    further_first : {j : ℕ} → BadFurther text i j → FurtherAt p i j
    further_first b =
        let a = segment_first (stops_there b) b.bad in
        record { is = record { start = b.start; before = b.before; bad = a.is }; there = a.there }

    further_after : {j : ℕ} (b : BadFurther text i j) → p ≤ b.bad.content.from
    further_after b = segment_after (stops_there b) b.bad

  -- a bad escape stands behind all that stands before its segment
  behind_start : {i j : ℕ} (b : BadFurther text i j) → i ≤ b.bad.content.from
  behind_start b = let e = forward b.before in let f = (in_segment_lem text b.bad).0 in omega arith

  -- ---- in the text

  record QuotedAt (p i j : ℕ) : Type 0 where
    pub is : BadQuoted text i j
    pub there : p ≡ backslash_of text is

  -- the first segment is a bad one
  module _ {i m p : ℕ} (stops : Stops text (i + 2) p) (bad : BadSegment text i m) where
    in_first_lem : {j : ℕ} → BadQuoted text i j → QuotedAt p i j
    in_first_lem (in_first b t) = let a = segment_first stops b in record { is = in_first a.is t; there = a.there }
    in_first_lem (in_further t c) =
        let e = (segment_single text).same (bad_takes text bad) t in
        let a = segment_first stops (place (BadSegment text) refl e bad) in
        record { is = in_first a.is (join c.before (more c.match c.behind)); there = a.there }

    first_after : {j : ℕ} (b : BadQuoted text i j) → p ≤ backslash_of text b
    first_after (in_first b t) = segment_after stops b
    first_after (in_further t c) =
        let e = (segment_single text).same (bad_takes text bad) t in
        let f = segment_after stops bad in let g = (in_segment_lem text bad).1 in
        let h = forward c.before in let k = behind_start c.holds in omega arith

  -- the segments up to j have no bad escape, and the next one, behind the space, is a bad one
  module _
      {i m j s k p : ℕ}
      (first : Takes text segment i m)
      (row : Takes text (many further) m j)
      (good : BadQuoted text i j → ⊥)
      (skips : Skips text j s)
      (stops : Stops text (s + 2) p)
      (bad : BadSegment text s k)
    where
      -- what ends the row is that segment
      next_same : {l : ℕ} → Takes text further j l → l ≡ k
      next_same t = (further_single text).same t (both skips.takes (bad_takes text bad))

      none_in_first : {l : ℕ} → BadSegment text i l → ⊥
      none_in_first b = good (in_first (place (BadSegment text) refl (first_same text first (bad_takes text b)) b) row)

      in_further_lem : {l : ℕ} → BadQuoted text i l → QuotedAt p i l
      in_further_lem (in_first b t) = absurd (none_in_first b)
      in_further_lem {l} (in_further {m = n} t c) =
          go (at_end_lem text further (BadFurther text) (further_single text) (further_strict text) (move (first_same text first t) row)
          (λ a. good (in_further t a)) (λ x u. further_first skips stops (next u)) c)
        where
          next : {x : ℕ} → Takes text further j x → BadFurther text j x
          next u = record { start = s; before = skips.takes; bad = place (BadSegment text) refl (sym (next_same u)) bad }

          go : Among text further (FurtherAt p) n l → QuotedAt p i l
          go a = record {
            is =
                in_further t (record { from = a.from; upto = a.upto; before = a.before; match = a.match; holds = a.holds.is; behind = a.behind });
            there = a.holds.there;
          }

      further_behind : {l : ℕ} (b : BadQuoted text i l) → p ≤ backslash_of text b
      further_behind (in_first b t) = absurd (none_in_first b)
      further_behind (in_further t c) =
          go (beyond text further (BadFurther text) (further_single text) (further_strict text) (move (first_same text first t) row)
          (λ a. good (in_further t a)) c.before c.match c.holds) c.holds
        where
          go : {x y : ℕ} → Takes text (many further) j x → (b : BadFurther text x y) → p ≤ b.bad.content.from
          go (stop e) b = further_after (subst (λ (x : ℕ). Skips text x s) e skips) stops b
          go (more u d) b =
              let e = next_same u in let f = segment_after stops bad in let g = (in_segment_lem text bad).1 in
              let h = forward d in let z = behind_start b in omega arith

  -- ---- the segments so far had none

  gone_bad :
      {at end next p : ℕ} {l : Literal} → Going text at end false → Skips text end next → Judges text segment (BadSegment text) next (Some l) →
      l.bad ≡ true → Stops text (next + 2) p → Points text at p
  gone_bad {at} {end} {next} {p} {l} g skips y e s =
      let b = y.1.true_holds e in
      let none = refuted g.says refl in
      record {
        bad =
            λ q. let a = in_further_lem g.start g.row none skips s b q in
            record { bad = a.is; there = a.there; first = further_behind g.start g.row none skips s b };
        none =
            λ n. absurd (n _ (in_further g.start (found g.row (both skips.takes (bad_takes text b)) (record { start = next; before = skips.takes; bad = b }))));
      }

  -- the first one has one
  starts_bad :
      {at p : ℕ} {l : Literal} → Judges text segment (BadSegment text) at (Some l) → l.bad ≡ true → Stops text (at + 2) p → Points text at p
  starts_bad {at} {p} y e s =
      let b = y.1.true_holds e in
      record {
        bad = λ q. let a = in_first_lem s b q in record { bad = a.is; there = a.there; first = first_after s b };
        none = λ f. absurd (f _ (in_first b (stop refl)));
      }

  none_bad : {at : ℕ} → ((j : ℕ) → BadQuoted text at j → ⊥) → Points text at at
  none_bad n = record { bad = λ b. absurd (n _ b); none = λ m. refl }

  gone_ends : {at end next : ℕ} → Going text at end false → Skips text end next → Fails text segment next → Points text at at
  gone_ends {at} {end} {next} g skips f = none_bad (λ j. go)
    where
      go : {j : ℕ} → BadQuoted text at j → ⊥
      go (in_first b t) = refuted g.says refl (in_first (place (BadSegment text) refl (first_same text g.start (bad_takes text b)) b) g.row)
      go (in_further t a) =
          (at_end_lem text further (BadFurther text) (further_single text) (further_strict text) {Q = λ x y. ⊥} (move (first_same text g.start t) g.row)
          (λ b. refuted g.says refl (in_further t b)) (λ k v. (further_judged text end next None skips f).none v) a).holds

  -- ---- the walk

  pub escaped_walked : (i : ℕ) (r : Option Walk) → At text quote i → At text backslash (i + 1) → RestWalked text (i + 2) r → SegmentWalked text i r
  escaped_walked i (Some w) a b y = (segment_escaped text i (Some (record { end = w.end; bad = is_some w.bad })) a b y.0, y.1)
  escaped_walked i None a b y = segment_escaped text i None a b y

  pub plain_walked : (i j : ℕ) → At text quote i → (At text backslash (i + 1) → ⊥) → Longest text plain_rest (i + 1) j → SegmentWalked text i (Some (record { end = j; bad = None }))
  plain_walked i j a n l = (segment_plain text i j a n l, λ p e. absurd (none_met e))

  -- the segments so far, and the first bad escape
  abbrev pub Segments : (at end : ℕ) → Option ℕ → Type 0
  Segments at end f = Going text at end (is_some f) × ((p : ℕ) → f ≡ Some p → Points text at p)

  pub segments_start : {at : ℕ} {w : Walk} → SegmentWalked text at (Some w) → Segments at w.end w.bad
  segments_start {at} {w} y = (going_starts text y.0, λ p e. starts_bad y.0 (ap is_some e) (y.1 p e))

  -- one segment more
  segments_more :
      {at end next j : ℕ} (f g : Option ℕ) → Segments at end f → Skips text end next → SegmentWalked text next (Some (record { end = j; bad = g })) →
      Segments at j (option_or f g)
  segments_more (Some q) g v s y = (going_on text v.0 s y.0, v.1)
  segments_more None g v s y = (going_on text v.0 s y.0, λ p e. gone_bad v.0 s y.0 (ap is_some e) (y.1 p e))

  pub segments_on :
      {at end next : ℕ} {f : Option ℕ} {w : Walk} → Segments at end f → Skips text end next → SegmentWalked text next (Some w) → Segments at w.end (option_or f w.bad)
  segments_on {f = f} {w} v s y = segments_more f w.bad v s y

  pub segments_none : {at : ℕ} → Fails text segment at → QuotedWalked text at None
  segments_none {at} f = (no_quoted text f, none_bad (λ j. go))
    where
      go : {j : ℕ} → BadQuoted text at j → ⊥
      go (in_first b t) = f.none (bad_takes text b)
      go (in_further t a) = f.none t

  pub segments_end : {at end next : ℕ} (f : Option ℕ) → Segments at end f → Skips text end next → Fails text segment next → QuotedWalked text at (Some (record { end = end; bad = f }))
  segments_end (Some q) v s x = (going_ends text v.0 s x, v.1 q refl)
  segments_end None v s x = (going_ends text v.0 s x, gone_ends v.0 s x)

  -- ---- one place

  -- what is said of a place is said of no other
  pub one_point : {i p q : ℕ} → Points text i p → Points text i q → p ≡ q
  one_point {i} {p} {q} x y = by (ℕ_discrete p q)
    where
      no_bad : (p ≡ q → ⊥) → (j : ℕ) → BadQuoted text i j → ⊥
      no_bad n j b = n (one_first_bad text (x.bad b) (y.bad b))

      by : Dec (p ≡ q) → p ≡ q
      by (yes e) = e
      by (no n) = x.none (no_bad n) ∙ sym (y.none (no_bad n))
