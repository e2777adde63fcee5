-- Every configuration has a completion, so a token that cannot be taken is in the wrong place, and no other is. Assumes nothing.
use mathlib.Core.Path.{◌≡◌, refl, sym, ap, subst, ◌∙◌}
use mathlib.Core.Bool.{true, false}
use mathlib.Core.List.{List, [], ◌∷◌, ◌++◌}
use mathlib.Core.Option.{Option, none, some}
use Prim.Native.Nat.{ℕ}
use native.Mathlib.Omega.{arith}
use Rattle.grammar.specs.Tokens
use Rattle.grammar.specs.Tokens.{Span, Tok, tok}
use Rattle.grammar.specs.Tree
use Rattle.grammar.specs.Tree.{Measure, by_number, by_truth, Style, copy, Value, Listing}
use Rattle.grammar.specs.Level.{Level}
use Rattle.grammar.specs.Place.{Sentence, Begins, Wrong, WrongEnd, ForValue}
use Rattle.grammar.proofs.Frames.{Front, Curly, lot_curly, counted_curly, opened, pair_colon, pair_arrow, in_tuple, attribute_name, CurlyFrame, member_joined, square_opened, low_and, up_to, Frame, in_round, in_square, Stack, two_commas, headed, bounded, Config, want, have, want_text, want_curly, want_count, have_item, want_close, last_item, shut}
use Rattle.grammar.proofs.Machine.{step, advance, run, runs}
use Rattle.grammar.proofs.Parts.{Goes, goes, item_shut}
use Rattle.grammar.proofs.Sound.{sound_close_round, sound_close_curly, sound_close_square, sound_nesting, sound_count, sound_closing, sound_want_curly}
use Rattle.grammar.proofs.Accepts.{run_none, run_append, reached, accepts, sentence_runs}

-- the span of a token that stands in no text
abbrev here : Span
here = record { first = 0; end = 0 }

-- the Ignorance literal
abbrev literal : Span → Tok
literal s = tok (Tokens.atom Tokens.ignorance) s

-- a whole value, with no bracket left
pub data Final : Config → Type 0 where
  final : (v : Value) → Final (have v [])

-- a value is wanted
pub data Wants : Config → Type 0 where
  wants : (K : Stack) → Wants (want K)

module _ (l : Level) where
  -- tokens that end the text, and its tree
  record Completion (c : Config) : Type 0 where
    rest : List Tok
    tree : Value
    ends : Goes l c (λ r. rest ++ r) (have tree [])

  -- one token, then the completion of what follows it
  after : {c d : Config} (t : Tok) → Goes l c (λ r. t ∷ r) d → Completion d → Completion c
  after t g h =
      record { rest = t ∷ h.rest; tree = h.tree; ends = goes l (λ r. h.ends.reads r ∙ g.reads (h.rest ++ r)) (h.ends.level ∙ g.level) }

  complete_have : (K : Stack) (v : Value) → Completion (have v K)
  complete_have [] v = record { rest = []; tree = v; ends = goes l (λ r. refl) refl }
  complete_have (in_round (opened o) ∷ K) v = after _ (sound_close_round l (opened o) v here K) (complete_have K _)
  complete_have (in_round (pair_colon o p k) ∷ K) v = after _ (sound_close_round l (pair_colon o p k) v here K) (complete_have K _)
  complete_have (in_round (pair_arrow o w a k) ∷ K) v = after _ (sound_close_round l (pair_arrow o w a k) v here K) (complete_have K _)
  complete_have (in_round (in_tuple o f) ∷ K) v = after _ (sound_close_round l (in_tuple o f) v here K) (complete_have K _)
  complete_have (in_round (attribute_name o f n k) ∷ K) v = after _ (sound_close_round l (attribute_name o f n k) v here K) (complete_have K _)
  complete_have (Frame.in_curly (CurlyFrame.in_curly (lot_curly o) f) ∷ K) v = after _ (sound_close_curly l (CurlyFrame.in_curly (lot_curly o) f) v here K) (complete_have K _)
  complete_have (Frame.in_curly (CurlyFrame.in_curly (counted_curly o h s k b) f) ∷ K) v =
      after _ (sound_close_curly l (CurlyFrame.in_curly (counted_curly o h s k b) f) v here K)
      (after _ (sound_closing l Tokens.round_close (headed o h s k b (last_item f (Tree.alone v)) here) here K) (complete_have K _))
  complete_have (Frame.in_curly (member_joined o f w j k) ∷ K) v = after _ (sound_close_curly l (member_joined o f w j k) v here K) (complete_have K _)
  complete_have (in_square (square_opened o) ∷ K) v = after _ (sound_close_square l (square_opened o) v here K) (complete_have K _)
  complete_have (in_square (low_and o w b k) ∷ K) v = after _ (sound_close_square l (low_and o w b k) v here K) (complete_have K _)
  complete_have (in_square (up_to o a k) ∷ K) v = after _ (sound_close_square l (up_to o a k) v here K) (complete_have K _)

  complete_want : (K : Stack) → Completion (want K)
  complete_want K = after (literal here) (goes l (λ r. refl) refl) (complete_have K (Tree.plain (Tree.literal Tokens.ignorance here)))

  complete_shut : {s : Style} (c : Curly s) (i : Listing s) (e : Span) (K : Stack) → Completion (shut c i e K)
  complete_shut (lot_curly o) i e K = complete_have K _
  complete_shut (counted_curly o h s k b) i e K = after _ (sound_closing l Tokens.round_close (headed o h s k b i e) here K) (complete_have K _)

  complete_item : {s : Style} (c : Curly s) (f : Front s) (i : Tree.Item s) (K : Stack) → Completion (have_item c f i K)
  complete_item c f i K = after _ (item_shut l c f i here K) (complete_shut c (last_item f i) here K)

  complete_count : (u : Measure) (c : Curly (copy u)) (f : Front (copy u)) (v : Value) (k : Span) (K : Stack) → Completion (want_count c f v k K)
  complete_count by_number c f v k K = after _ (sound_count l by_number (Tokens.integer false) c f v k here K) (complete_item c f _ K)
  complete_count by_truth c f v k K = after _ (sound_count l by_truth (Tokens.boolean true) c f v k here K) (complete_item c f _ K)

  completion : (c : Config) → Completion c
  completion (want K) = complete_want K
  completion (have v K) = complete_have K v
  completion (want_text n o K) = after _ (sound_nesting l n o (Tokens.spelled Tokens.word) here K) (complete_have K _)
  completion (want_curly o h s k K) = after _ (sound_want_curly l Tokens.curly o h s k here K) (complete_want _)
  completion (want_count {u} c f v k K) = complete_count u c f v k K
  completion (have_item c f i K) = complete_item c f i K
  completion (want_close (two_commas c a b) K) = after _ (sound_closing l Tokens.curly_close (two_commas c a b) here K) (complete_shut c (Tree.two_commas a b) here K)
  completion (want_close (headed o h s k b i e) K) = after _ (sound_closing l Tokens.round_close (headed o h s k b i e) here K) (complete_have K _)
  completion (want_close (bounded o b) K) = after _ (sound_closing l Tokens.square_close (bounded o b) here K) (complete_have K _)

  -- a text of the level begins with every list of tokens that the machine takes
  pub begins : (ts : List Tok) (c : Config) → runs l ts ≡ some c → Begins l ts
  begins ts c e =
      let g = reached l ts c e in
      let h = completion c in
      record {
        rest = h.rest ++ [];
        sentence =
            record { tree = h.tree; of_level = h.ends.level ∙ g.level; yields = h.ends.reads [] ∙ g.reads (h.rest ++ []) };
      }

  -- ---- a token in the wrong place

  pub one_more : (ts : List Tok) (c : Config) (t : Tok) → runs l ts ≡ some c → runs l (ts ++ (t ∷ [])) ≡ step l c t
  one_more ts c t e = run_append l (some (want [])) ts (t ∷ []) ∙ ap (λ (m : Option Config). advance l m t) e

  clash : (c : Config) → none ≡ some c → ⊥
  clash c e = let z : ◌≡◌ {A = ℕ} 0 1 = cc in omega arith

  -- no text of the level begins with tokens that the machine does not take
  pub none_begins : (ts : List Tok) → runs l ts ≡ none → Begins l ts → ⊥
  none_begins ts e b =
      let p : runs l (ts ++ b.rest) ≡ none = run_append l (some (want [])) ts b.rest ∙ ap (λ (m : Option Config). run l m b.rest) e ∙ run_none l b.rest in
      clash (have b.sentence.tree []) (sym p ∙ sentence_runs l (ts ++ b.rest) b.sentence)

  pub stuck_wrong : (ts : List Tok) (c : Config) (t : Tok) → runs l ts ≡ some c → step l c t ≡ none → Wrong l ts t
  stuck_wrong ts c t e s = record { none = none_begins (ts ++ (t ∷ [])) (one_more ts c t e ∙ s) }

  pub wrong_stuck : (ts : List Tok) (c : Config) (t : Tok) → runs l ts ≡ some c → Wrong l ts t → step l c t ≡ none
  wrong_stuck ts c t e w = go (step l c t) refl
    where
      go : (m : Option Config) → step l c t ≡ m → step l c t ≡ none
      go none s = s
      go (some d) s = absurd (w.none (begins (ts ++ (t ∷ [])) d (one_more ts c t e ∙ s)))

  -- the same without the configuration before the token
  pub wrong_runs : (ts : List Tok) (t : Tok) → Wrong l ts t → runs l (ts ++ (t ∷ [])) ≡ none
  wrong_runs ts t w = go (runs l (ts ++ (t ∷ []))) refl
    where
      go : (m : Option Config) → runs l (ts ++ (t ∷ [])) ≡ m → runs l (ts ++ (t ∷ [])) ≡ none
      go none e = e
      go (some d) e = absurd (w.none (begins (ts ++ (t ∷ [])) d e))

  pub runs_wrong : (ts : List Tok) (t : Tok) → runs l (ts ++ (t ∷ [])) ≡ none → Wrong l ts t
  runs_wrong ts t e = record { none = none_begins (ts ++ (t ∷ [])) e }

  -- ---- the end

  pub final_sentence : {c : Config} (ts : List Tok) → Final c → runs l ts ≡ some c → Sentence l ts
  final_sentence ts (final v) e = accepts l ts v e

  pub sentence_final : (ts : List Tok) (c : Config) → runs l ts ≡ some c → Sentence l ts → Final c
  sentence_final ts c e s =
      let p : some (have s.tree []) ≡ some c = sym (sentence_runs l ts s) ∙ e in
      subst Final (same p) (final s.tree)
    where
      same : {d : Config} → some d ≡ some c → d ≡ c
      same p = cc

  pub wrong_end : (ts : List Tok) (c : Config) → runs l ts ≡ some c → (Final c → ⊥) → WrongEnd l ts
  wrong_end ts c e f = record { none = λ s. f (sentence_final ts c e s) }

  -- ---- a place for a value

  pub wants_value : {c : Config} (ts : List Tok) → Wants c → runs l ts ≡ some c → (s : Span) → ForValue l ts s
  wants_value ts (wants K) e s = begins (ts ++ (literal s ∷ [])) _ (one_more ts (want K) (literal s) e)

  no_count : (u : Measure) (c : Curly (copy u)) (f : Front (copy u)) (v : Value) (k : Span) (K : Stack) (s : Span) → step l (want_count c f v k K) (literal s) ≡ none
  no_count by_number c f v k K s = refl
  no_count by_truth c f v k K s = refl

  pub value_wants : (ts : List Tok) (c : Config) → runs l ts ≡ some c → (s : Span) → ForValue l ts s → Wants c
  value_wants ts (want K) e s b = wants K
  value_wants ts (have v K) e s b = absurd ((stuck_wrong ts _ (literal s) e refl).none b)
  value_wants ts (want_text n o K) e s b = absurd ((stuck_wrong ts _ (literal s) e refl).none b)
  value_wants ts (want_curly o h t k K) e s b = absurd ((stuck_wrong ts _ (literal s) e refl).none b)
  value_wants ts (want_count {u} c f v k K) e s b = absurd ((stuck_wrong ts _ (literal s) e (no_count u c f v k K s)).none b)
  value_wants ts (have_item c f i K) e s b = absurd ((stuck_wrong ts _ (literal s) e refl).none b)
  value_wants ts (want_close c K) e s b = absurd ((stuck_wrong ts _ (literal s) e refl).none b)

  -- at a place for a value the machine stands, and wants one
  pub place_runs : (ts : List Tok) (s : Span) → ForValue l ts s → (K : Stack) × (runs l ts ≡ some (want K))
  place_runs ts s b = go (runs l ts) refl
    where
      stack : (c : Config) → runs l ts ≡ some c → Wants c → (K : Stack) × (runs l ts ≡ some (want K))
      stack c e (wants K) = (K, e)

      go : (m : Option Config) → runs l ts ≡ m → (K : Stack) × (runs l ts ≡ some (want K))
      go none e = absurd (none_begins (ts ++ (literal s ∷ [])) (run_append l (some (want [])) ts (literal s ∷ []) ∙ ap (λ (m : Option Config). advance l m (literal s)) e) b)
      go (some c) e = stack c e (value_wants ts c e s b)
