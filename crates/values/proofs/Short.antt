-- A bad quoted text in short: a quoted literal is bad exactly if some character of it is no code point. Assumes nothing.
use mathlib.Core.Path.{subst, sym}
use mathlib.Core.Logic.{⊎_elim}
use mathlib.Core.List.{List, [], ◌∷◌, ◌++◌}
use Prim.Native.Nat.{ℕ}
use Rattle.rules.specs.Rule.{◌then◌, ◌or◌, many, opt, Takes, both, left, right, stop, more}
use Rattle.rules.proofs.Matches.{starting}
use Rattle.lexicon.specs.Space.{sp}
use Rattle.lexicon.specs.Literals.{unescaped, escape, segment}
use Rattle.lexicon.specs.Values.{Escaped, Row, Segment, Quoted, last_segment, next_segment}
use Rattle.lexicon.specs.Values as Values
use Rattle.lexicon.specs.Bad.{Outside, BadEscape, BadSegment, BadFurther, BadQuoted, in_first, in_further, BadCharacter}
use Rattle.values.proofs.Characters.{Scalars}
use Rattle.values.proofs.Values.{escape_of, escaped_of, segment_of, further_of, quoted_scalars}

in_left_lem : {cs : List ℕ} (ds : List ℕ) → Outside cs → Outside (cs ++ ds)
in_left_lem ds (Outside.now n) = Outside.now n
in_left_lem ds (Outside.later o) = Outside.later (in_left_lem ds o)

in_right_lem : (cs : List ℕ) {ds : List ℕ} → Outside ds → Outside (cs ++ ds)
in_right_lem [] o = o
in_right_lem (c ∷ cs) o = Outside.later (in_right_lem cs o)

not_all : {cs : List ℕ} → Outside cs → Scalars cs → ⊥
not_all (Outside.now n) s = n s.0
not_all (Outside.later o) s = not_all o s.1

module _ (piece : List ℕ) where
  abbrev Inner : ℕ → ℕ → Type 0
  Inner i j = Takes piece (many (unescaped or escape)) i j

  abbrev Further : ℕ → ℕ → Type 0
  Further i j = Takes piece (many (opt sp then segment)) i j

  -- a bad escape's number is among the characters of its segment
  row_outside : {i f u j : ℕ} → Inner i f → BadEscape piece f u → Inner u j → (cs : List ℕ) × Row piece (Escaped piece) i j cs × Outside cs
  row_outside {j = j} (stop e) b t =
      let x = escaped_of piece t in
      let r = Values.next (Escaped.number b.before b.code.code b.behind) x.1 in
      (_, subst (λ (k : ℕ). Row piece (Escaped piece) k j (b.code.number ∷ x.0)) (sym e) r, Outside.now b.code.bad)
  row_outside (more (left t) u) b v =
      let x = row_outside u b v in (_, Values.next (Escaped.itself t) x.1, Outside.later x.2)
  row_outside (more (right t) u) b v =
      let c = escape_of piece t in
      let x = row_outside u b v in
      (_, Values.next c.1 x.1, Outside.later x.2)

  segment_outside : {i j : ℕ} → BadSegment piece i j → (cs : List ℕ) × Segment piece i j cs × Outside cs
  segment_outside b =
      let x = row_outside b.content.before b.content.holds b.content.behind in
      (_, Segment.escaped b.before x.1 b.behind, x.2)

  -- further segments take nothing away
  first_outside : {i m j : ℕ} {cs : List ℕ} → Segment piece i m cs → Outside cs → Further m j → (ds : List ℕ) × Quoted piece i j ds × Outside ds
  first_outside {i} {cs = cs} s o (stop e) = (cs, last_segment (subst (λ (x : ℕ). Segment piece i x cs) e s), o)
  first_outside s o (more (both p t) u) =
      let x = further_of piece (segment_of piece t).1 u in (_, next_segment s p x.1, in_left_lem x.0 o)

  further_outside : {i m f u j : ℕ} {cs : List ℕ} → Segment piece i m cs → Further m f → BadFurther piece f u → Further u j → (ds : List ℕ) × Quoted piece i j ds × Outside ds
  further_outside {cs = cs} s (stop e) b v =
      let y = segment_outside b.bad in
      let z = first_outside y.1 y.2 v in
      (_, next_segment s (starting (sym e) b.before) z.1, in_right_lem cs z.2)
  further_outside {i} {cs = cs} s (more (both {m = k} p t) u) b v =
      let z = further_outside {i = k} (segment_of piece t).1 u b v in (_, next_segment s p z.1, in_right_lem cs z.2)

  pub short_of : {i j : ℕ} → BadQuoted piece i j → BadCharacter piece i j
  short_of (in_first b t) =
      let y = segment_outside b in
      let z = first_outside y.1 y.2 t in
      record { characters = z.0; are = z.1; outside = z.2 }
  short_of (in_further t a) =
      let z = further_outside (segment_of piece t).1 a.before a.holds a.behind in
      record { characters = z.0; are = z.1; outside = z.2 }

  pub of_short : {i j : ℕ} → BadCharacter piece i j → BadQuoted piece i j
  of_short c = ⊎_elim (λ s. absurd (not_all c.outside s)) (λ b. b) (quoted_scalars piece c.are)
