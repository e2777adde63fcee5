-- A quoted Text with bad escapes has a first one, so every bad value has a place; both compute. Assumes nothing.
use mathlib.Core.Path.{◌≡◌, refl, subst}
use mathlib.Core.Logic.{◌⊎◌, inl, inr}
use mathlib.Core.List.{List, [], ◌∷◌, ◌++◌}
use Prim.Native.Nat.{ℕ}
use Rattle.rules.specs.Rule.{Rule, ◌or◌, many, opt, lit, Takes, more, Among}
use Rattle.rules.proofs.Chains.{join}
use Rattle.lexicon.specs.declared.Form.TheVariants as Form
use Rattle.lexicon.specs.declared.Kind.{Kind}
use Rattle.lexicon.specs.Space.{sp}
use Rattle.lexicon.specs.Literals.{unescaped, escape, segment}
use Rattle.lexicon.specs.Bad.{BadEscape, BadSegment, BadFurther, BadQuoted, in_first, in_further, backslash_of, FirstBad}
use Rattle.lexicon.specs.Token.{Bad, BadPlace, inside_quotes, first_byte}
use Rattle.lexicon.proofs.Segments.{further, bad_takes}
use Rattle.lexicon.proofs.Places.{quoted_or_not}
use Rattle.decisions.proofs.Cuts.{reaches, takes}
use Rattle.decisions.proofs.Quoted.{bad_escape, bad_escape_lem}
use Rattle.decisions.proofs.Listed.{Lists, in_words, just_one, either_list, only_if, tested_list, behind, behind_list, in_row, row_list, least_of, least_is}

module _ (text : List ℕ) where
  abbrev item : Rule
  item = unescaped or escape

  -- ---- the backslashes of all bad escapes: of an escape, of a segment, of a further one, of the text

  abbrev in_escape : ℕ → ℕ → List ℕ
  in_escape i j = only_if (bad_escape text i j) (i ∷ [])

  abbrev EscapeAt : ℕ → ℕ → ℕ → Type 0
  EscapeAt i j p = BadEscape text i j × (p ≡ i)

  in_escape_lem : (i j : ℕ) → Lists (in_escape i j) (EscapeAt i j)
  in_escape_lem i j = tested_list (bad_escape text i j) (bad_escape_lem text i j) (just_one i)

  abbrev ended : ℕ → ℕ → ℕ → List ℕ
  ended j s e = only_if (reaches text (lit "\"") e j) (in_row text item in_escape s e)

  abbrev in_segment : ℕ → ℕ → List ℕ
  in_segment i j = behind text (lit "\"\\") i (λ s. behind text (many item) s (ended j s))

  abbrev SegmentAt : ℕ → ℕ → ℕ → Type 0
  SegmentAt i j p = (b : BadSegment text i j) × (p ≡ b.content.from)

  abbrev Ended : ℕ → ℕ → ℕ → ℕ → Type 0
  Ended j s e p = Takes text (lit "\"") e j × Among text item (λ x y. EscapeAt x y p) s e

  in_segment_lem : (i j : ℕ) → Lists (in_segment i j) (SegmentAt i j)
  in_segment_lem i j =
      in_words to from
      (behind_list text (lit "\"\\") i (λ s. behind text (many item) s (ended j s)) (λ s p. (e : ℕ) × Takes text (many item) s e × Ended j s e p)
      (λ s t.
      behind_list text (many item) s (ended j s) (Ended j s)
      (λ e u. tested_list (reaches text (lit "\"") e j) (takes text (lit "\"") e j) (row_list text item in_escape EscapeAt in_escape_lem s e))))
    where
      to : (p : ℕ) → (s : ℕ) × Takes text (lit "\"\\") i s × ((e : ℕ) × Takes text (many item) s e × Ended j s e p) → SegmentAt i j p
      to p (s, t, (e, u, (v, a))) = (
        record {
          start = s;
          end = e;
          before = t;
          content = record { from = a.from; upto = a.upto; before = a.before; match = a.match; holds = a.holds.0; behind = a.behind };
          behind = v;
        },
        a.holds.1,
      )

      from : (p : ℕ) → SegmentAt i j p → (s : ℕ) × Takes text (lit "\"\\") i s × ((e : ℕ) × Takes text (many item) s e × Ended j s e p)
      from p (b, e) =
          let a = b.content in (
            b.start,
            b.before,
            (
              b.end,
              join a.before (more a.match a.behind),
              (
                b.behind,
                record { from = a.from; upto = a.upto; before = a.before; match = a.match; holds = (a.holds, e); behind = a.behind },
              ),
            ),
          )

  abbrev in_further_one : ℕ → ℕ → List ℕ
  in_further_one i j = behind text (opt sp) i (λ s. in_segment s j)

  abbrev FurtherAt : ℕ → ℕ → ℕ → Type 0
  FurtherAt i j p = (b : BadFurther text i j) × (p ≡ b.bad.content.from)

  in_further_lem : (i j : ℕ) → Lists (in_further_one i j) (FurtherAt i j)
  in_further_lem i j =
      in_words (λ p x. (record { start = x.0; before = x.1; bad = x.2.0 }, x.2.1)) (λ p x. (x.0.start, x.0.before, (x.0.bad, x.1)))
      (behind_list text (opt sp) i (λ s. in_segment s j) (λ s p. SegmentAt s j p) (λ s t. in_segment_lem s j))

  abbrev in_quoted : ℕ → ℕ → List ℕ
  in_quoted i j =
      behind text segment i (λ m. only_if (reaches text (many further) m j) (in_segment i m)) ++ behind text segment i (λ m. in_row text further in_further_one m j)

  abbrev QuotedAt : ℕ → ℕ → ℕ → Type 0
  QuotedAt i j p = (b : BadQuoted text i j) × (p ≡ backslash_of text b)

  abbrev FirstAt : ℕ → ℕ → ℕ → ℕ → Type 0
  FirstAt i j m p = Takes text (many further) m j × SegmentAt i m p

  abbrev RowAt : ℕ → ℕ → ℕ → Type 0
  RowAt m j p = Among text further (λ x y. FurtherAt x y p) m j

  in_quoted_lem : (i j : ℕ) → Lists (in_quoted i j) (QuotedAt i j)
  in_quoted_lem i j =
      in_words to from
      (either_list
      (behind_list text segment i (λ m. only_if (reaches text (many further) m j) (in_segment i m)) (FirstAt i j)
      (λ m t. tested_list (reaches text (many further) m j) (takes text (many further) m j) (in_segment_lem i m)))
      (behind_list text segment i (λ m. in_row text further in_further_one m j) (λ m p. RowAt m j p)
      (λ m t. row_list text further in_further_one FurtherAt in_further_lem m j)))
    where
      to : (p : ℕ) → ((m : ℕ) × Takes text segment i m × FirstAt i j m p) ⊎ ((m : ℕ) × Takes text segment i m × RowAt m j p) → QuotedAt i j p
      to p (inl (m, t, (c, x))) = (in_first x.0 c, x.1)
      to p (inr (m, t, a)) = (
        in_further t (record { from = a.from; upto = a.upto; before = a.before; match = a.match; holds = a.holds.0; behind = a.behind }),
        a.holds.1,
      )

      from : (p : ℕ) → QuotedAt i j p → ((m : ℕ) × Takes text segment i m × FirstAt i j m p) ⊎ ((m : ℕ) × Takes text segment i m × RowAt m j p)
      from p (in_first {m = m} b c, e) = inl (m, bad_takes text b, (c, (b, e)))
      from p (in_further {m = m} t a, e) =
          inr (m, t, record { from = a.from; upto = a.upto; before = a.before; match = a.match; holds = (a.holds, e); behind = a.behind })

  -- ---- the first

  abbrev pub first_bad : ℕ → ℕ → ℕ
  first_bad i j = least_of (in_quoted i j)

  pub first_bad_lem : {i j : ℕ} → BadQuoted text i j → FirstBad text i j (first_bad i j)
  first_bad_lem {i} {j} b =
      let l = least_is (in_quoted_lem i j) (b, refl) in
      record { bad = l.holds.0; there = l.holds.1; first = λ o. l.most (backslash_of text o) (o, refl) }

  -- ---- every kind

  abbrev place_by : {k : Kind} → (k ≡ Kind.Text Form.Quoted) ⊎ (k ≡ Kind.Text Form.Quoted → ⊥) → ℕ → ℕ → ℕ
  place_by (inl e) i j = first_bad i j
  place_by (inr n) i j = i

  abbrev pub place_of : Kind → ℕ → ℕ → ℕ
  place_of k i j = place_by (quoted_or_not k) i j

  pub place_is : (k : Kind) {i j : ℕ} → Bad text k i j → BadPlace text k i j (place_of k i j)
  place_is k {i} {j} b = by (quoted_or_not k)
    where
      by : (d : (k ≡ Kind.Text Form.Quoted) ⊎ (k ≡ Kind.Text Form.Quoted → ⊥)) → BadPlace text k i j (place_by d i j)
      by (inl e) = inside_quotes e (first_bad_lem (subst (λ (x : Kind). Bad text x i j) e b))
      by (inr n) = first_byte n refl

  pub bad_place : (k : Kind) (i j : ℕ) → Bad text k i j → (p : ℕ) × BadPlace text k i j p
  bad_place k i j b = (place_of k i j, place_is k b)
