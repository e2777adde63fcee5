-- A newer form stands in no text of the level. Assumes nothing.
use mathlib.Core.Path.{◌≡◌, refl, ap, ◌∙◌}
use mathlib.Core.Bool.{Bool, false}
use mathlib.Core.List.{List, [], ◌∷◌, ◌++◌}
use mathlib.Core.Option.{Option, none, some}
use Rattle.lexicon.specs.declared.Head.{Head}
use Rattle.grammar.specs.Tokens.{Span, Tok}
use Rattle.grammar.specs.Level.{Level, has_head}
use Rattle.grammar.specs.Place.{Begins, Beyond, newer_head, newer_bracket, later_literal, Newer}
use Rattle.grammar.proofs.Frames.{Stack, Config, want}
use Rattle.grammar.proofs.Machine.{when, head_colon, run, runs}
use Rattle.grammar.proofs.Accepts.{run_none, run_append}
use Rattle.grammar.proofs.Viable.{none_begins, place_runs}

module _ (l : Level) where
  when_false : {b : Bool} (c : Config) → b ≡ false → when b c ≡ none
  when_false c e = ap (λ (x : Bool). when x c) e

  head_lacks : (h : Head) (o s k : Span) (K : Stack) → has_head l h ≡ false → head_colon l h o s k K ≡ none
  head_lacks Head.Array o s k K e = when_false _ e
  head_lacks Head.Set o s k K e = when_false _ e
  head_lacks Head.Bag o s k K e = when_false _ e
  head_lacks Head.Mix o s k K e = refl
  head_lacks Head.IntervalSet o s k K e = refl
  head_lacks Head.IntervalBag o s k K e = refl
  head_lacks Head.TupleArray o s k K e = refl
  head_lacks Head.Relation o s k K e = refl
  head_lacks Head.TupleBag o s k K e = refl
  head_lacks Head.Article o s k K e = refl
  head_lacks Head.Excuse o s k K e = refl
  head_lacks Head.Heading o s k K e = refl
  head_lacks Head.Renaming o s k K e = refl

  beyond_stops : {ts : List Tok} (K : Stack) → Beyond l ts → run l (some (want K)) ts ≡ none
  beyond_stops K (newer_head {o} {s} {k} {h} {ts} e) = ap (λ (m : Option Config). run l m ts) (head_lacks h o s k K e) ∙ run_none l ts
  beyond_stops K (newer_bracket {o} {ts} e) = ap (λ (m : Option Config). run l m ts) (when_false _ e) ∙ run_none l ts
  beyond_stops K (later_literal {s} {ts}) = run_none l ts

  pub newer_stops : (xs : List Tok) (t : Tok) (ys : List Tok) → Newer l xs t ys → runs l (xs ++ (t ∷ ys)) ≡ none
  newer_stops xs t ys n =
      let w = place_runs l xs t.at n.place in
      run_append l (some (want [])) xs (t ∷ ys) ∙ ap (λ (m : Option Config). run l m (t ∷ ys)) w.1 ∙ beyond_stops w.0 n.beyond

  -- so it is in no text, and no text goes on behind it
  pub newer_begins : (xs : List Tok) (t : Tok) (ys : List Tok) → Newer l xs t ys → Begins l (xs ++ (t ∷ ys)) → ⊥
  newer_begins xs t ys n b = none_begins l (xs ++ (t ∷ ys)) (newer_stops xs t ys n) b
