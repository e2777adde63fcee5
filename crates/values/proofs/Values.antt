-- Every Text literal has characters, and they are scalar values unless the literal is bad. Assumes nothing.
use mathlib.Core.Path.{◌≡◌, refl, sym, subst}
use mathlib.Core.Logic.{◌⊎◌, inl, inr, ⊎_elim}
use mathlib.Core.Bool.{true}
use mathlib.Core.List.{List, [], ◌∷◌, ◌++◌}
use Prim.Native.Nat.{ℕ, ◌≤◌}
use native.Mathlib.Decide.{dec_le}
use native.Mathlib.Omega.{arith}
use lib.ListN.{get_or}
use Rattle.rules.specs.Class.{In, just, any_of}
use Rattle.rules.specs.Rule.{◌then◌, ◌or◌, many, opt, At, Takes, nothing, byte, both, left, right, stop, more, Among}
use Rattle.rules.proofs.Classes.{apart, apart_span, apart_no, just_is, in_cons}
use Rattle.rules.proofs.Matches.{move_at}
use Rattle.rules.proofs.Ways.{never, never_takes, begins_within}
use Rattle.lexicon.specs.declared.Base.{Base}
use Rattle.lexicon.specs.Space.{sp}
use Rattle.lexicon.specs.Literals.{unescaped, restricted, escape_letter, escape, segment, quoted, code_of_base, code_point_of}
use Rattle.lexicon.specs.Values.{Letter, CodeOf, Plain, Escaped, Row, done, Segment, Quoted, last_segment, next_segment}
use Rattle.lexicon.specs.Values as Values
use Rattle.lexicon.specs.Bad.{Scalar, BadEscape, BadSegment, BadFurther, BadQuoted, in_first, in_further}
use Rattle.lexicon.proofs.Bases.{some_base}
use Rattle.lexicon.proofs.Segments.{bad_takes}
use Rattle.values.specs.QuotedBytes.{quote, backslash}
use Rattle.values.proofs.Characters.{Scalars, scalars_both}
use Rattle.values.proofs.Sequences.{unescaped_written, restricted_written}
use Rattle.values.proofs.Shapes.{code_takes}

backslash_unescaped : never backslash unescaped ≡ true
unfolding never apart apart_span
backslash_unescaped = refl

quote_backslash : apart quote backslash ≡ true
unfolding apart apart_span
quote_backslash = refl

-- every letter that may stand behind a backslash is one
letter_of : (x : ℕ) → In escape_letter x → (c : ℕ) × Letter x c
letter_of x h = go x (in_cons _ _ x h)
  where
    is : (b x : ℕ) {c : ℕ} → Letter b c → In (just b) x → (c : ℕ) × Letter x c
    is b x {c} l i = (c, subst (λ (y : ℕ). Letter y c) (sym (just_is b x i)) l)

    fifth : (x : ℕ) → In (just 0x6E) x ⊎ In (just 0x72) x → (c : ℕ) × Letter x c
    fifth x (inl i) = is 0x6E x Letter.line_feed i
    fifth x (inr i) = is 0x72 x Letter.carriage_return i

    fourth : (x : ℕ) → In (just 0x74) x ⊎ In (any_of "nr") x → (c : ℕ) × Letter x c
    fourth x (inl i) = is 0x74 x Letter.tab i
    fourth x (inr i) = fifth x (in_cons _ _ x i)

    third : (x : ℕ) → In (just 0x62) x ⊎ In (any_of "tnr") x → (c : ℕ) × Letter x c
    third x (inl i) = is 0x62 x Letter.reverse_solidus i
    third x (inr i) = fourth x (in_cons _ _ x i)

    second : (x : ℕ) → In (just 0x67) x ⊎ In (any_of "btnr") x → (c : ℕ) × Letter x c
    second x (inl i) = is 0x67 x Letter.grave_accent i
    second x (inr i) = third x (in_cons _ _ x i)

    go : (x : ℕ) → In (just 0x71) x ⊎ In (any_of "gbtnr") x → (c : ℕ) × Letter x c
    go x (inl i) = is 0x71 x Letter.quotation_mark i
    go x (inr i) = second x (in_cons _ _ x i)

-- a number is a scalar value or not
pub scalar_or : (v : ℕ) → Scalar v ⊎ (Scalar v → ⊥)
scalar_or v = low (dec_le v 0xD7FF)
  where
    none : (v ≤ 0xD7FF → ⊥) → ((0xE000 ≤ v) × (v ≤ 0x10FFFF) → ⊥) → Scalar v → ⊥
    none l h (inl x) = l x
    none l h (inr x) = h x

    high : (v ≤ 0xD7FF → ⊥) → Dec (0xE000 ≤ v) → Dec (v ≤ 0x10FFFF) → Scalar v ⊎ (Scalar v → ⊥)
    high l (yes a) (yes b) = inl (inr (a, b))
    high l (yes a) (no b) = inr (none l (λ x. b x.1))
    high l (no a) b = inr (none l (λ x. a x.0))

    low : Dec (v ≤ 0xD7FF) → Scalar v ⊎ (Scalar v → ⊥)
    low (yes a) = inl (inl a)
    low (no a) = high a (dec_le 0xE000 v) (dec_le v 0x10FFFF)

module _ (piece : List ℕ) where
  -- ---- every literal has characters

  pub code_of : {i j : ℕ} → Takes piece code_point_of i j → (v : ℕ) × CodeOf piece i j v
  code_of t = let s = some_base code_of_base t in go s.0 s.1
    where
      go : (b : Base) {i j : ℕ} → Takes piece (code_of_base b) i j → (v : ℕ) × CodeOf piece i j v
      go b (both u d) = (_, record { base = b; start = _; before = u; all_digits = d; value_is = refl })

  row_none : (Item : ℕ → ℕ → ℕ → Type 0) {i j : ℕ} → i ≡ j → Row piece Item i j []
  row_none Item {i} e = subst (λ (x : ℕ). Row piece Item i x []) e done

  plain_of : {i j : ℕ} → Takes piece (many restricted) i j → (cs : List ℕ) × Row piece (Plain piece) i j cs
  plain_of (stop e) = ([], row_none (Plain piece) e)
  plain_of (more t u) = let x = plain_of u in (_, Values.next (Plain.itself t) x.1)

  pub escape_of : {i j : ℕ} → Takes piece escape i j → (c : ℕ) × Escaped piece i j c
  escape_of (both {m = m} t (left (byte a e))) =
      let l = letter_of (get_or piece m 0) a.1 in (l.0, Escaped.letter t l.1 (byte a e))
  escape_of (both t (right (both u (both d q)))) = let v = code_of d in (v.0, Escaped.number (both t u) v.1 q)

  pub escaped_of : {i j : ℕ} → Takes piece (many (unescaped or escape)) i j → (cs : List ℕ) × Row piece (Escaped piece) i j cs
  escaped_of (stop e) = ([], row_none (Escaped piece) e)
  escaped_of (more (left t) u) = let x = escaped_of u in (_, Values.next (Escaped.itself t) x.1)
  escaped_of (more (right t) u) = let c = escape_of t in let x = escaped_of u in (_, Values.next c.1 x.1)

  pub segment_of : {i j : ℕ} → Takes piece segment i j → (cs : List ℕ) × Segment piece i j cs
  segment_of (both a (both {i = m} (left (left (both t u))) z)) =
      let x = plain_of u in
      let b : At piece backslash m → ⊥ = λ w. never_takes piece backslash unescaped backslash_unescaped w t in
      (_, Segment.plain a (λ w. b (begins_within unescaped refl t, w)) (Values.next (Plain.itself (left t)) x.1) z)
  segment_of (both a (both {i = m} (left (right (nothing e))) (byte q f))) = (
    [],
    Segment.plain a (λ w. apart_no quote backslash (get_or piece m 0) quote_backslash (move_at piece quote (sym e) q).1 w)
        (row_none (Plain piece) e) (byte q f),
  )
  segment_of (both a (both (right (both b t)) z)) = let x = escaped_of t in (_, Segment.escaped (both a b) x.1 z)

  pub further_of : {i m j : ℕ} {cs : List ℕ} → Segment piece i m cs → Takes piece (many (opt sp then segment)) m j → (ds : List ℕ) × Quoted piece i j ds
  further_of {i} {cs = cs} s (stop e) = (cs, last_segment (subst (λ (x : ℕ). Segment piece i x cs) e s))
  further_of {i} s (more (both {m = k} p t) u) = let x = further_of {i = k} (segment_of t).1 u in (_, next_segment s p x.1)

  pub quoted_of : {i j : ℕ} → Takes piece quoted i j → (cs : List ℕ) × Quoted piece i j cs
  quoted_of (both t u) = further_of (segment_of t).1 u

  -- ---- and what has characters is a literal

  plain_takes : {i j : ℕ} {cs : List ℕ} → Row piece (Plain piece) i j cs → Takes piece (many restricted) i j
  plain_takes done = stop refl
  plain_takes (Values.next (Plain.itself t) r) = more t (plain_takes r)

  abbrev Item : ℕ → ℕ → Type 0
  Item i j = Takes piece (unescaped or escape) i j

  item_takes : {i j c : ℕ} → Escaped piece i j c → Item i j
  item_takes (Escaped.itself t) = left t
  item_takes (Escaped.letter t l u) = right (both t (left u))
  item_takes (Escaped.number (both t u) c q) = right (both t (right (both u (both (code_takes piece c) q))))

  escaped_takes : {i j : ℕ} {cs : List ℕ} → Row piece (Escaped piece) i j cs → Takes piece (many (unescaped or escape)) i j
  escaped_takes done = stop refl
  escaped_takes (Values.next x r) = more (item_takes x) (escaped_takes r)

  plain_item : {i j c : ℕ} → Plain piece i j c → Takes piece restricted i j
  plain_item (Plain.itself t) = t

  first_takes : {i m j : ℕ} → (In backslash (get_or piece i 0) → ⊥) → Takes piece restricted i m → Takes piece (many restricted) m j →
      Takes piece (opt (unescaped then many restricted)) i j
  first_takes n (left t) u = left (both t u)
  first_takes n (right (byte b e)) u = absurd (n b.1)

  pub segment_takes : {i j : ℕ} {cs : List ℕ} → Segment piece i j cs → Takes piece segment i j
  segment_takes (Segment.plain a n done z) = both a (both (left (right (nothing refl))) z)
  segment_takes (Segment.plain a n (Values.next x r) z) = both a (both (left (first_takes n (plain_item x) (plain_takes r))) z)
  segment_takes (Segment.escaped (both a b) r z) = both a (both (right (both b (escaped_takes r))) z)

  further_takes : {i k j : ℕ} {cs : List ℕ} → Takes piece (opt sp) i k → Quoted piece k j cs → Takes piece (many (opt sp then segment)) i j
  further_takes p (last_segment s) = more (both p (segment_takes s)) (stop refl)
  further_takes p (next_segment s q u) = more (both p (segment_takes s)) (further_takes q u)

  pub quoted_takes : {i j : ℕ} {cs : List ℕ} → Quoted piece i j cs → Takes piece quoted i j
  quoted_takes (last_segment s) = both (segment_takes s) (stop refl)
  quoted_takes (next_segment s p u) = both (segment_takes s) (further_takes p u)

  -- ---- its characters are scalar values, or it is bad

  item_scalar : {i j c : ℕ} → Escaped piece i j c → Scalar c ⊎ BadEscape piece i j
  item_scalar (Escaped.itself t) = inl (unescaped_written piece t).is_scalar
  item_scalar (Escaped.letter t l u) = inl (letter_scalar l)
    where
      letter_scalar : {x c : ℕ} → Letter x c → Scalar c
      letter_scalar Letter.quotation_mark = inl (omega arith)
      letter_scalar Letter.grave_accent = inl (omega arith)
      letter_scalar Letter.reverse_solidus = inl (omega arith)
      letter_scalar Letter.tab = inl (omega arith)
      letter_scalar Letter.line_feed = inl (omega arith)
      letter_scalar Letter.carriage_return = inl (omega arith)
  item_scalar (Escaped.number {v = v} t c q) =
      ⊎_elim (λ s. inl s)
      (λ n. inr (record { start = _; end = _; before = t; code = record { number = v; code = c; bad = n }; behind = q })) (scalar_or v)

  escaped_scalars : {i j : ℕ} {cs : List ℕ} → Row piece (Escaped piece) i j cs → Scalars cs ⊎ Among piece (unescaped or escape) (BadEscape piece) i j
  escaped_scalars done = inl tt
  escaped_scalars (Values.next {i = i} {m = m} {j = j} {c = c} {cs = cs} x r) = go (item_scalar x) (escaped_scalars r)
    where
      go : Scalar c ⊎ BadEscape piece i m → Scalars cs ⊎ Among piece (unescaped or escape) (BadEscape piece) m j →
          Scalars (c ∷ cs) ⊎ Among piece (unescaped or escape) (BadEscape piece) i j
      go (inl s) (inl t) = inl (s, t)
      go (inr b) t =
          inr (record { from = i; upto = m; before = stop refl; match = item_takes x; holds = b; behind = escaped_takes r })
      go (inl s) (inr a) =
          inr (record { from = a.from; upto = a.upto; before = more (item_takes x) a.before; match = a.match; holds = a.holds; behind = a.behind })

  plain_scalars : {i j : ℕ} {cs : List ℕ} → Row piece (Plain piece) i j cs → Scalars cs
  plain_scalars done = tt
  plain_scalars (Values.next (Plain.itself t) r) = ((restricted_written piece t).is_scalar, plain_scalars r)

  segment_scalars : {i j : ℕ} {cs : List ℕ} → Segment piece i j cs → Scalars cs ⊎ BadSegment piece i j
  segment_scalars (Segment.plain a n r z) = inl (plain_scalars r)
  segment_scalars (Segment.escaped a r z) =
      ⊎_elim (λ s. inl s) (λ b. inr (record { start = _; end = _; before = a; content = b; behind = z })) (escaped_scalars r)

  pub quoted_scalars : {i j : ℕ} {cs : List ℕ} → Quoted piece i j cs → Scalars cs ⊎ BadQuoted piece i j
  quoted_scalars (last_segment s) = ⊎_elim (λ x. inl x) (λ b. inr (in_first b (stop refl))) (segment_scalars s)
  quoted_scalars (next_segment {i = i} {m = m} {k = k} {j = j} {cs = cs} {ds = ds} s p u) = go (segment_scalars s) (quoted_scalars u)
    where
      behind : BadQuoted piece k j → Among piece (opt sp then segment) (BadFurther piece) m j
      behind (in_first b t) =
          record { from = m; upto = _; before = stop refl; match = both p (bad_takes piece b); holds = record { start = k; before = p; bad = b }; behind = t }
      behind (in_further t a) =
          record { from = a.from; upto = a.upto; before = more (both p t) a.before; match = a.match; holds = a.holds; behind = a.behind }

      go : Scalars cs ⊎ BadSegment piece i m → Scalars ds ⊎ BadQuoted piece k j → Scalars (cs ++ ds) ⊎ BadQuoted piece i j
      go (inl x) (inl y) = inl (scalars_both cs ds x y)
      go (inr b) y = inr (in_first b (further_takes p u))
      go (inl x) (inr b) = inr (in_further (segment_takes s) (behind b))
