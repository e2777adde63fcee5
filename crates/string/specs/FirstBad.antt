-- What a walk over a quoted text, or over a part of it, answers: where it ends, and its first bad escape. Assumes
-- nothing.
use Rattle.std.specs.Prelude.{◌≡◌, List, ℕ, ◌+◌, Option, Some, None, is_some, unwrap_or}
use Rattle.rules.specs.Rule.{many, Takes, Fails, Among}
use Rattle.lexicon.specs.Found.{Judges}
use Rattle.lexicon.specs.Literals.{segment, quoted}
use Rattle.lexicon.specs.Bad.{BadEscape, BadSegment, BadQuoted, FirstBad}
use Rattle.string.specs.declared.segment.Walk.{Walk}
use Rattle.string.specs.Parts.{item, escaped_rest, BadRest}

module _ (text : List ℕ) where
  -- the items from i to j are a row with no bad one, and the item at j is bad
  pub record Stops (i j : ℕ) : Type 0 where
    pub row : Takes text (many item) i j
    pub good : Among text item (BadEscape text) i j → ⊥
    pub bad : {k : ℕ} → Takes text item j k → BadEscape text j k

  -- of any quoted text from i that has a bad escape, the first one's place; i if there is no such text
  pub record Points (i place : ℕ) : Type 0 where
    pub bad : {j : ℕ} → BadQuoted text i j → FirstBad text i j place
    pub none : ((j : ℕ) → BadQuoted text i j → ⊥) → place ≡ i

  -- the rest of an escaped segment from i on, a segment, a whole text
  abbrev pub RestWalked : ℕ → Option Walk → Type 0
  RestWalked i (Some w) =
      Judges text escaped_rest (BadRest text) i (Some (record { end = w.end; bad = is_some w.bad })) ×
      ((p : ℕ) → w.bad ≡ Some p → Stops i p)
  RestWalked i None = Fails text escaped_rest i

  abbrev pub SegmentWalked : ℕ → Option Walk → Type 0
  SegmentWalked i (Some w) =
      Judges text segment (BadSegment text) i (Some (record { end = w.end; bad = is_some w.bad })) ×
      ((p : ℕ) → w.bad ≡ Some p → Stops (i + 2) p)
  SegmentWalked i None = Fails text segment i

  abbrev pub QuotedWalked : ℕ → Option Walk → Type 0
  QuotedWalked i (Some w) =
      Judges text quoted (BadQuoted text) i (Some (record { end = w.end; bad = is_some w.bad })) ×
      Points i (unwrap_or w.bad i)
  QuotedWalked i None = Fails text quoted i × Points i i
