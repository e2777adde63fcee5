-- Whether a quoted Text has a bad code point: in an escape, in a segment that begins with a backslash, in one of the segments. Assumes nothing.
use mathlib.Core.Logic.{◌⊎◌, inl, inr}
use mathlib.Core.Bool.{Bool, ◌&&◌, ◌||◌}
use mathlib.Core.List.{List}
use Prim.Native.Nat.{ℕ}
use Rattle.rules.specs.Test.{Says}
use Rattle.rules.specs.Rule.{◌then◌, ◌or◌, many, opt, lit, Takes, both, right, more, Among}
use Rattle.rules.proofs.Chains.{join}
use Rattle.lexicon.specs.Space.{sp}
use Rattle.lexicon.specs.Literals.{code_point_of, unescaped, escape, segment}
use Rattle.lexicon.specs.Bad.{BadCode, BadEscape, BadSegment, BadFurther, BadQuoted, in_first, in_further}
use Rattle.decisions.proofs.Tests.{by, and, either}
use Rattle.decisions.proofs.Cuts.{reaches, takes, leads, cut, leads_among, among}
use Rattle.decisions.proofs.Codes.{bad_code, bad_code_lem, code_takes}

module _ (text : List ℕ) where
  -- ---- an escape

  abbrev closed : ℕ → ℕ → ℕ → Bool
  closed j s e = reaches text (lit ">") e j && bad_code text s e

  abbrev Closed : ℕ → ℕ → ℕ → Type 0
  Closed j s e = Takes text (lit ">") e j × BadCode text s e

  abbrev pub bad_escape : ℕ → ℕ → Bool
  bad_escape i j = leads text (lit "\\<") i (λ s. leads text code_point_of s (closed j s))

  pub bad_escape_lem : (i j : ℕ) → Says (bad_escape i j) (BadEscape text i j)
  bad_escape_lem i j =
      by (λ x. record { start = x.0; end = x.2.0; before = x.1; code = x.2.2.1; behind = x.2.2.0 })
      (λ x. (x.start, x.before, (x.end, code_takes text x.code, (x.behind, x.code))))
      (cut text (lit "\\<") i (λ s. leads text code_point_of s (closed j s)) (λ s. (e : ℕ) × Takes text code_point_of s e × Closed j s e)
      (λ s t. cut text code_point_of s (closed j s) (Closed j s) (λ e u. and (takes text (lit ">") e j) (bad_code_lem text s e))))

  -- ---- a segment

  content_takes : {i j : ℕ} → Among text (unescaped or escape) (BadEscape text) i j → Takes text (many (unescaped or escape)) i j
  content_takes a = join a.before (more a.match a.behind)

  abbrev ended : ℕ → ℕ → ℕ → Bool
  ended j s e = reaches text (lit "\"") e j && leads_among text (unescaped or escape) bad_escape s e

  abbrev Ended : ℕ → ℕ → ℕ → Type 0
  Ended j s e = Takes text (lit "\"") e j × Among text (unescaped or escape) (BadEscape text) s e

  abbrev bad_segment : ℕ → ℕ → Bool
  bad_segment i j = leads text (lit "\"\\") i (λ s. leads text (many (unescaped or escape)) s (ended j s))

  bad_segment_lem : (i j : ℕ) → Says (bad_segment i j) (BadSegment text i j)
  bad_segment_lem i j =
      by (λ x. record { start = x.0; end = x.2.0; before = x.1; content = x.2.2.1; behind = x.2.2.0 })
      (λ x. (x.start, x.before, (x.end, content_takes x.content, (x.behind, x.content))))
      (cut text (lit "\"\\") i (λ s. leads text (many (unescaped or escape)) s (ended j s)) (λ s. (e : ℕ) × Takes text (many (unescaped or escape)) s e × Ended j s e)
      (λ s t.
      cut text (many (unescaped or escape)) s (ended j s) (Ended j s)
      (λ e u. and (takes text (lit "\"") e j) (among text (unescaped or escape) bad_escape (BadEscape text) bad_escape_lem s e))))

  segment_takes : {i j : ℕ} → BadSegment text i j → Takes text segment i j
  segment_takes x = go x.before (content_takes x.content) x.behind
    where
      go : {i s e j : ℕ} → Takes text (lit "\"\\") i s → Takes text (many (unescaped or escape)) s e → Takes text (lit "\"") e j → Takes text segment i j
      go (both a b) c d = both a (both (right (both b c)) d)

  -- ---- the segments

  abbrev bad_further : ℕ → ℕ → Bool
  bad_further i j = leads text (opt sp) i (λ s. bad_segment s j)

  bad_further_lem : (i j : ℕ) → Says (bad_further i j) (BadFurther text i j)
  bad_further_lem i j =
      by (λ x. record { start = x.0; before = x.1; bad = x.2 }) (λ x. (x.start, x.before, x.bad))
      (cut text (opt sp) i (λ s. bad_segment s j) (λ s. BadSegment text s j) (λ s t. bad_segment_lem s j))

  abbrev first : ℕ → ℕ → ℕ → Bool
  first i j m = bad_segment i m && reaches text (many (opt sp then segment)) m j

  abbrev First : ℕ → ℕ → ℕ → Type 0
  First i j m = BadSegment text i m × Takes text (many (opt sp then segment)) m j

  abbrev further : ℕ → ℕ → Bool
  further j m = leads_among text (opt sp then segment) bad_further m j

  abbrev Further : ℕ → ℕ → Type 0
  Further j m = Among text (opt sp then segment) (BadFurther text) m j

  abbrev pub bad_quoted : ℕ → ℕ → Bool
  bad_quoted i j = leads text segment i (first i j) || leads text segment i (further j)

  pub bad_quoted_lem : (i j : ℕ) → Says (bad_quoted i j) (BadQuoted text i j)
  bad_quoted_lem i j =
      by to from
      (either (cut text segment i (first i j) (First i j) (λ m t. and (bad_segment_lem i m) (takes text (many (opt sp then segment)) m j)))
      (cut text segment i (further j) (Further j) (λ m t. among text (opt sp then segment) bad_further (BadFurther text) bad_further_lem m j)))
    where
      to : ((m : ℕ) × Takes text segment i m × First i j m) ⊎ ((m : ℕ) × Takes text segment i m × Further j m) → BadQuoted text i j
      to (inl (m, t, x)) = in_first x.0 x.1
      to (inr (m, t, x)) = in_further t x

      from : BadQuoted text i j → ((m : ℕ) × Takes text segment i m × First i j m) ⊎ ((m : ℕ) × Takes text segment i m × Further j m)
      from (in_first {m = m} b t) = inl (m, segment_takes b, (b, t))
      from (in_further {m = m} t a) = inr (m, t, a)
