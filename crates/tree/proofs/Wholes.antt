-- A whole text: from the value's reading to the answer. Assumes nothing.
use mathlib.Core.Path.{◌≡◌, refl, sym, ap, subst, ◌∙◌}
use mathlib.Core.List.{List, [], ◌++◌}
use mathlib.Core.Option.{none, some}
use Prim.Native.Nat.{ℕ, ◌*◌, ◌≤◌, ◌<◌}
use native.Mathlib.Omega.{arith}
use lib.ListN.{length, drop}
use Rattle.lexicon.specs.declared.Token as Token
use Rattle.lexicon.specs.declared.Next.TheVariants as Next
use Rattle.std.specs.Result.{MatchResult}
use Rattle.lexicon.specs.declared.NotUtf8.{NotUtf8}
use Rattle.lexicon.specs.Utf8.{BadAt, Encoded}
use Rattle.lexicon.specs.Front.{Front}
use Rattle.lexicon.specs.Token.{Comes}
use Rattle.lexicon.proofs.Pieces.{token_bounds}
use Rattle.grammar.specs.Tokens
use Rattle.grammar.specs.Tokens.{Span, Class, class_kind}
use Rattle.grammar.specs.Tree.{Value}
use Rattle.grammar.specs.Level.{Level}
use Rattle.grammar.specs.Nodes.{table, table_words, node_words}
use Rattle.grammar.proofs.Frames.{names_of}
use Rattle.grammar.proofs.Machine.{have_class, names_go}
use Rattle.reading.specs.declared.Answer.{Answer}
use Rattle.reading.specs.declared.Limits.{Limits}
use Rattle.reading.specs.declared.Rules.{Rules}
use Rattle.reading.specs.Sizes.{room, widest}
use Rattle.reading.specs.declared.Refusal.{Refusal}
use Rattle.reading.specs.Refusals.{answer_of}
use Rattle.reading.specs.Answers.{Accepted, Answers, answer, no_level, too_long, not_utf8, faulty, no_room, accepted}
use Rattle.reading.proofs.First.{all_or_fault}
use Rattle.reading.proofs.Unique.{one_tree_lem}
use Rattle.reading.proofs.At as At
use Rattle.reading.proofs.At.{class_kind_lem, at_start, none_here, not_here, not_wanting}
use Rattle.moves.specs.declared.Forms.{Forms}
use Rattle.moves.specs.Means.{level_of}
use Rattle.table.specs.Over.{Written}
use Rattle.table.proofs.Written.{written_whole}
use Rattle.look.specs.declared.answer.Read.{Read}
use Rattle.std.specs.Prelude.{Result, Ok, Err}
use Rattle.reading.specs.declared.Refused.{Refused}
use Rattle.look.specs.Looks.{Gets, unformed_by}
use Rattle.look.specs.Ends.{Behind, further, nothing, at_end}
use Rattle.look.proofs.Looking.{got_token}
use Rattle.level.specs.Levels.{LevelFound}
use Rattle.tree.specs.Readers.{span_of, Faulty, Fit, IsValue, Outcome, Reads}
use Rattle.tree.specs.Whole.{Whole, JudgedAs, Judged, Told}
use Rattle.tree.proofs.Readings.{refused_here}

-- what the room holds are words of the table
roomy : (rules : Rules) (n words : ℕ) → n ≤ room rules words → n * node_words ≤ words
roomy rules n words h = omega (arith, h)

-- no token goes on with the value of a text
stuck : (l : Level) (k : Class) (v : Value) (s : Span) → (k ≡ Tokens.names → names_of v ≡ none) → have_class l k v s [] ≡ none
stuck l (Tokens.atom a) v s f = refl
stuck l (Tokens.text w) v s f = refl
stuck l Tokens.names v s f = ap (λ n. names_go n s []) (f refl)
stuck l Tokens.round v s f = refl
stuck l Tokens.curly v s f = refl
stuck l Tokens.square v s f = refl
stuck l (Tokens.mark m) v s f = refl
stuck l Tokens.later v s f = refl

pub whole_fit : (text : List ℕ) {p : ℕ} {t : Token.Token} → Comes text p (Next.Token t) → length text ≤ widest → Fit text t 0 0 × (0 ≤ t.first)
whole_fit text k h =
    let y = token_bounds text k in
    (record { short = h; some_byte = y.1; inside_text = y.2; index_fits = omega arith; parent_fits = omega arith }, omega arith)

module _ (text : List ℕ) (limits : Limits) (forms : Forms) where
  -- an accepted text has no fault
  accepted_faultless : {v : Value} → Accepted limits text (level_of forms) v → (n q : ℕ) → Faulty text limits forms n q → ⊥
  accepted_faultless a n q f = all_or_fault text limits (level_of forms) a.passed f

  -- ---- the value of a text

  module _ {lent left : List ℕ} {p : ℕ} (f : Front text p) {g : Result Token.Token Refused} (x : Gets text p g) where
    pub whole_missing : {e : Refused} → g ≡ Err e → Judged text limits forms lent left (Err e)
    whole_missing e = record { judged = refused_here text limits forms (at_start limits (level_of forms) text f) refl x e }

    module _ {t : Token.Token} (e : g ≡ Ok t) {r : Result Read Refused} (y : Reads text limits forms 0 t lent left 0 0 r) where
      value_read : (z : Result Read Refused) → r ≡ z → Outcome text limits forms [] t lent left 0 0 z
      value_read z q =
          subst (λ (w : Result Read Refused). Outcome text limits forms [] t lent left 0 0 w) q
          (y.outcome [] p (record { stands = at_start limits (level_of forms) text f; comes = got_token text p e x; no_sign = λ m i. refl }))

      pub whole_refused : {n : Refused} → r ≡ Err n → Judged text limits forms lent left r
      whole_refused {n} i = subst (Judged text limits forms lent left) (sym i) (record { judged = value_read (Err n) i })

      pub whole_read : {a : Read} (z : Result Read Refused) → r ≡ Ok a → Behind text a.end (Ok a) z → Judged text limits forms lent left z
      whole_read {a} z i b = record { judged = go z b }
        where
          v : IsValue text limits forms [] t a.end a.nodes a.shape lent left 0 0
          v = value_read (Ok a) i

          go : (w : Result Read Refused) → Behind text a.end (Ok a) w → JudgedAs text limits forms lent left w
          go w (further {t = u} k) =
              not_here limits (level_of forms) text v.stands u k (not_wanting refl)
              (stuck (level_of forms) (class_kind u.kind) v.tree (span_of u) (λ q. v.stops u k (class_kind_lem u.kind q)))
          go w (nothing {q = q} k) = none_here limits (level_of forms) text v.stands q k
          go w (at_end {q = q} k) =
              record { tree = v.tree; accepted = (At.accepted limits (level_of forms) text v.stands q k).0; count_is = v.count_is; written = v.written }

-- ---- the answer

module _ (text : List ℕ) (forms : Forms) (rules : Rules) (lent : List ℕ) (h : length text ≤ rules.text) where
  pub told_refused : {none left' : List ℕ} {e : Refused} {z : Result Read Refused} → Judged text rules.limits forms none left' z → z ≡ Err e → Told text rules forms lent lent (Err e)
  told_refused {none} {left'} j i =
      let f = subst (λ (w : Result Read Refused). JudgedAs text rules.limits forms none left' w) i j.judged in
      record { answers = λ number o w. record { tree = _; reading = faulty o h w f; left_is = refl } }

  module _ {none left' : List ℕ} {a : Read} {z : Result Read Refused} (j : Judged text rules.limits forms none left' z) (e : z ≡ Ok a) where
    judged_whole : Whole text rules.limits forms none left' a.nodes
    judged_whole = subst (λ (w : Result Read Refused). JudgedAs text rules.limits forms none left' w) e j.judged

    pub told_full : {m : ℕ} {r : Answer} → m ≡ room rules (length lent) → m < a.nodes → r ≡ answer 8 (length text) a.nodes → Told text rules forms lent lent (Ok r)
    told_full q l i =
        let v = judged_whole in
        record {
          answers = λ number o w.
              subst (λ (s : Answer). Answers rules text lent number s lent) (sym (i ∙ ap (λ (c : ℕ). answer 8 (length text) c) v.count_is))
              (record { tree = _; reading = no_room o h w v.accepted (omega (arith, q, l, v.count_is)); left_is = refl });
        }

    written_as : {m : ℕ} {left : List ℕ} {r : Answer} (y : Result Read Refused) → m ≡ room rules (length lent) → a.nodes ≤ m → JudgedAs text rules.limits forms lent left y → r ≡ answer 0 (length text) a.nodes →
        Told text rules forms lent left (Ok r)
    written_as (Err f) i l d x = absurd (accepted_faultless text rules.limits forms judged_whole.accepted _ _ d)
    written_as {m} {left} (Ok b) i l d x =
        let v = judged_whole in
        let same : v.tree ≡ d.tree = one_tree_lem rules.limits text refl v.accepted d.accepted in
        let fits : a.nodes ≤ room rules (length lent) = omega (arith, i, l) in
        let w : left ≡ table_words (table v.tree) ++ drop (node_words * length (table v.tree)) lent =
        written_whole (subst (λ (t : Value). Written lent left 0 (table t)) (sym same) d.written) (roomy rules (length (table v.tree)) (length lent) (omega (arith, fits, v.count_is))) in
        record {
          answers = λ number o u.
              subst (λ (s : Answer). Answers rules text lent number s left) (sym (x ∙ ap (λ (c : ℕ). answer 0 (length text) c) v.count_is))
              (record { tree = some v.tree; reading = accepted o h u v.accepted (omega (arith, fits, v.count_is)); left_is = w });
        }

    pub told_written : {m : ℕ} {left : List ℕ} {r : Answer} {y : Result Read Refused} → m ≡ room rules (length lent) → a.nodes ≤ m → Judged text rules.limits forms lent left y → r ≡ answer 0 (length text) a.nodes →
        Told text rules forms lent left (Ok r)
    told_written {y = y} i l d x = written_as y i l d.judged x

-- ---- the tests over the whole text

-- what the UTF-8 test refuses, as a refusal
pub unformed_at : {text : List ℕ} (r : Result (Unit {0}) NotUtf8) {z : Result (Unit {0}) Refused} {e : Refused} → z ≡ unformed_by r → z ≡ Err e → Encoded text r →
    (q : ℕ) × (e ≡ record { refusal = Refusal.NotUtf8; place = q }) × BadAt text q
unformed_at {text} r {e = e} m i y = by r (subst (λ (w : Result (Unit {0}) Refused). MatchResult w (λ x. ⊥) (λ f. e ≡ f)) (sym i ∙ m) refl) y
  where
    by : (r : Result (Unit {0}) NotUtf8) → MatchResult (unformed_by r) (λ x. ⊥) (λ f. e ≡ f) → Encoded text r → (q : ℕ) × (e ≡ record { refusal = Refusal.NotUtf8; place = q }) × BadAt text q
    by (Ok x) k y = absurd k
    by (Err f) k y = (f.at, k, y)

module _ (rules : Rules) (text lent : List ℕ) (number : ℕ) where
  pub read_no_level : {e : Refused} → LevelFound number (Err e) → Answers rules text lent number (answer_of e) lent
  read_no_level x = subst (λ (s : Refused). Answers rules text lent number (answer_of s) lent) (sym x.0) (record { tree = _; reading = no_level x.1; left_is = refl })

  module _ {forms : Forms} (l : LevelFound number (Ok forms)) where
    pub read_long : rules.text < length text → Answers rules text lent number (answer 2 0 0) lent
    read_long h = record { tree = _; reading = too_long l h; left_is = refl }

    pub read_bad : length text ≤ rules.text → {p : ℕ} → BadAt text p → Answers rules text lent number (answer 3 p 0) lent
    read_bad h b = record { tree = _; reading = not_utf8 l h b; left_is = refl }
