-- The place of 5: the reader's is the Text call's, counted within the piece. Assumes nothing.
use mathlib.Core.Path.{◌≡◌, refl, subst}
use mathlib.Core.Bool.{true}
use mathlib.Core.Logic.{inl, inr}
use mathlib.Core.List.{List}
use Prim.Native.Nat.{ℕ}
use native.Mathlib.Omega.{arith}
use lib.ListN.{length}
use Rattle.rules.specs.Class.{Class, codes}
use Rattle.rules.specs.Plain.{between}
use Rattle.rules.specs.Rule.{At, left, right}
use Rattle.rules.proofs.Classes.{apart, apart_span, includes, in_some}
use Rattle.rules.proofs.Plain.{plain, row_matches}
use Rattle.rules.proofs.Ways.{never, opens, opens_at}
use Rattle.rules.proofs.Windows.{piece_length}
use Rattle.lexicon.specs.declared.Form.{Form}
use Rattle.lexicon.specs.declared.Form.TheVariants.{Quoted, Word, HeadWord, CodePoint}
use Rattle.lexicon.specs.declared.Kind.{Kind}
use Rattle.lexicon.specs.declared.Kind.TheVariants.{Text}
use Rattle.lexicon.specs.Bytes.{word_start}
use Rattle.lexicon.specs.Literals.{word, code_point_of}
use Rattle.lexicon.specs.Bad.{FirstBad}
use Rattle.lexicon.specs.Token.{a_word, Is, Bad, BadPlace, inside_quotes, first_byte}
use Rattle.lexicon.proofs.Segments.{quote}
use Rattle.lexicon.proofs.Unique.{token_forward}
use Rattle.lexicon.proofs.Pieces.{token_within, token_formed, token_alone, bad_alone}
use Rattle.lexicon.proofs.Places.{not_quoted, place_from, place_within, place_alone, first_bad_takes}
use Rattle.decisions.proofs.Heads.{form_of, told}
use Rattle.grammar.specs.Level.{Level}
use Rattle.reading.specs.declared.Answer.{Answer}
use Rattle.reading.specs.declared.Rules.{Rules}
use Rattle.reading.specs.Answers.{LevelOf, Answers}
use Rattle.values.specs.Exactly.{Exactly}
use Rattle.values.specs.Text.{text_literal, text_call, TextAnswers}
use Rattle.values.proofs.Shapes.{zero, zero_code, quoted_first, quoted_bad, code_bad, word_good}
use Rattle.demands.specs.Requests.{BadLiteral}
use Rattle.demands.proofs.Fives.{whole, Begins, Valued, Agrees, bad_token, call_bad, five_read, five_called}
use Rattle.demands.proofs.Blobs.{zero_begins}

-- ---- a Text literal, by how it is written

quote_begins : Begins quote
unfolding never apart apart_span
quote_begins = record { no_mark = refl; no_line = refl; no_blank = refl }

word_begins : Begins word_start
unfolding never apart apart_span
word_begins = record { no_mark = refl; no_line = refl; no_blank = refl }

word_opens : opens word_start word ≡ true
unfolding opens includes in_some
word_opens = refl

valued : (f : Form) (end : ℕ) → Valued (Text f) end
valued Quoted end = record { plainly = refl; value = _; steps = λ l. refl }
valued Word end = record { plainly = refl; value = _; steps = λ l. refl }
valued (HeadWord h) end = record { plainly = refl; value = _; steps = λ l. refl }
valued CodePoint end = record { plainly = refl; value = _; steps = λ l. refl }

module _ (text : List ℕ) where
  -- its first byte is not dropped at the front of a text
  opening : (f : Form) → Is text (Text f) 0 (length text) → (c : Class) × Begins c × At text c 0
  opening Quoted is = (quote, quote_begins, quoted_first text is.told.takes)
  opening Word is = (word_start, word_begins, opens_at text word_start word word_opens is.told.0.takes)
  opening (HeadWord h) is = (word_start, word_begins, opens_at text word_start word word_opens is.told.0.takes)
  opening CodePoint is = (zero, zero_begins, opens_at text zero code_point_of zero_code is.told.takes)

  literal : (f : Form) → Is text (Text f) 0 (length text) → Exactly text_literal text
  literal Quoted is = left is.told.takes
  literal Word is = right (left is.told.0.takes)
  literal (HeadWord h) is = right (left is.told.0.takes)
  literal CodePoint is = right (right is.told.takes)

  form_of_lem : Exactly text_literal text → (f : Form) × Is text (Text f) 0 (length text)
  form_of_lem (left t) = (Quoted, record { told = whole t })
  form_of_lem (right (left t)) = (form_of text 0 (length text), record { told = told text a_word 0 (length text) (whole t) })
  form_of_lem (right (right t)) = (CodePoint, record { told = whole t })

  -- what is bad for the call is the token's bad value, at its place
  agrees : (f : Form) → Is text (Text f) 0 (length text) → Agrees text_call (Text f) text
  agrees Quoted is =
      record {
        to = λ b. let x = quoted_bad text is.told.takes b in (x.bad, inside_quotes refl x);
        from = λ b at. inl (first at);
      }
    where
      first : {p : ℕ} → BadPlace text (Text Quoted) 0 (length text) p → FirstBad text 0 (length text) p
      first (inside_quotes e x) = x
      first (first_byte n e) = absurd (n refl)
  agrees Word is = record { to = λ {p} b. absurd (word_good text is.told.0.takes p b); from = λ b at. absurd b }
  agrees (HeadWord h) is = record { to = λ {p} b. absurd (word_good text is.told.0.takes p b); from = λ b at. absurd b }
  agrees CodePoint is =
      record {
        to = λ b. let x = code_bad text is.told.takes b in (x.1, first_byte (not_quoted (Text CodePoint) refl) x.0);
        from = λ b at. inr (first at, b);
      }
    where
      first : {p : ℕ} → BadPlace text (Text CodePoint) 0 (length text) p → p ≡ 0
      first (inside_quotes e x) = absurd (not_quoted (Text CodePoint) refl e)
      first (first_byte n e) = e

-- ---- the two answers

module _ (rules : Rules) (text table : List ℕ) (level : ℕ) {r : Answer} {exit : List ℕ} (a : Answers rules text table level r exit) where
  pub same_text : {l : Level} → Exactly text_literal text → LevelOf level l → {buffer : List ℕ} {c : Answer} {kept : List ℕ} → TextAnswers rules text buffer c kept →
      (r.number ≡ 5 → c ≡ r) × (c.number ≡ 5 → r ≡ c)
  same_text x of b =
      let f = form_of_lem text x in
      let o = opening text f.0 f.1 in
      let g = agrees text f.0 f.1 in
      let v = valued f.0 (length text) in
      ((λ e. five_called text_call rules g x f.1 v o.1 o.2 of a b e), (λ e. five_read text_call rules g x f.1 v o.1 o.2 of a b e))

  pub pointed : r.number ≡ 5 → BadLiteral rules text r.place
  pointed e =
      let t = bad_token rules text a.reading e in
      record {
        kind = t.kind;
        first = t.first;
        end = t.end;
        is = t.is;
        bad = t.bad;
        within = (place_from text t.at, place_within text (token_forward text t.is) t.at);
        inside_quotes = λ q. escape t.at q;
        backslash = λ q. row_matches (codes "\\<") (plain text (first_bad_takes text (escape t.at q)));
        as_before = λ n. before t.at n;
        in_call = λ f q buffer kept c b.
            let k = subst (λ (x : Kind). Is text x t.first t.end) q t.is in
            let alone = token_alone text (Text f) k in
            let within = token_within text (Text f) k in
            call_bad text_call rules (agrees (between text t.first t.end) f alone) (literal (between text t.first t.end) f alone)
            (omega (arith, t.short, within, piece_length text {i = t.first} {j = t.end} (omega (arith, token_forward text k)) within)) (token_formed text (Text f) k t.formed)
            (bad_alone text (Text f) k (subst (λ (x : Kind). Bad text x t.first t.end) q t.bad))
            (place_alone text (Text f) k (subst (λ (x : Kind). BadPlace text x t.first t.end r.place) q t.at)) b;
      }
    where
      escape : {k : Kind} {i j p : ℕ} → BadPlace text k i j p → k ≡ Text Quoted → FirstBad text i j p
      escape (inside_quotes e x) q = x
      escape (first_byte n e) q = absurd (n q)

      before : {k : Kind} {i j p : ℕ} → BadPlace text k i j p → (k ≡ Text Quoted → ⊥) → p ≡ i
      before (inside_quotes e x) n = absurd (n e)
      before (first_byte n e) m = e
