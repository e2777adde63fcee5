-- What the machine accepts: exactly the texts of the level, each with its one tree. Assumes nothing.
use mathlib.Core.Path.{◌≡◌, refl, sym, ap, subst, ◌∙◌}
use mathlib.Core.Bool.{true}
use mathlib.Core.List.{List, [], ◌∷◌, ◌++◌, append-nil}
use mathlib.Core.Option.{Option, none, some}
use Rattle.grammar.specs.Tokens.{Tok}
use Rattle.grammar.specs.Tree.{Value}
use Rattle.grammar.specs.Yield.{yield_value}
use Rattle.grammar.specs.Level.{Level, keeps}
use Rattle.grammar.specs.Place.{Sentence}
use Rattle.grammar.proofs.Frames.{Config, want, have}
use Rattle.grammar.proofs.Machine.{step, advance, run, runs}
use Rattle.grammar.proofs.Parts.{Goes, Sound, goes}
use Rattle.grammar.proofs.Sound.{sound}
use Rattle.grammar.proofs.Complete.{accepted}

module _ (l : Level) where
  pub run_none : (ts : List Tok) → run l none ts ≡ none
  run_none [] = refl
  run_none (t ∷ ts) = run_none ts

  pub run_append : (m : Option Config) (ts us : List Tok) → run l m (ts ++ us) ≡ run l (run l m ts) us
  run_append m [] us = refl
  run_append m (t ∷ ts) us = run_append (advance l m t) ts us

  -- steps put together
  sound_then : (c d : Config) (t : Tok) (ts : List Tok) (m : Option Config) → Goes l c (λ r. t ∷ r) d → Sound l d (λ r. ts ++ r) m → Sound l c (λ r. t ∷ (ts ++ r)) m
  sound_then c d t ts none g h = tt
  sound_then c d t ts (some e) g h = goes l (λ r. h.reads r ∙ g.reads (ts ++ r)) (h.level ∙ g.level)

  sound_rest : (c : Config) (t : Tok) (ts : List Tok) (m : Option Config) →
      ((d : Config) → Sound l d (λ r. ts ++ r) (run l (some d) ts)) → Sound l c (λ r. t ∷ r) m → Sound l c (λ r. t ∷ (ts ++ r)) (run l m ts)
  sound_rest c t ts none h g = subst (Sound l c (λ r. t ∷ (ts ++ r))) (sym (run_none ts)) tt
  sound_rest c t ts (some d) h g = sound_then c d t ts (run l (some d) ts) g (h d)

  pub sound_run : (ts : List Tok) (c : Config) → Sound l c (λ r. ts ++ r) (run l (some c) ts)
  sound_run [] c = goes l (λ r. refl) refl
  sound_run (t ∷ ts) c = sound_rest c t ts (step l c t) (λ d. sound_run ts d) (sound l c t)

  -- what a configuration that the tokens lead to stands for
  pub reached : (ts : List Tok) (c : Config) → runs l ts ≡ some c → Goes l (want []) (λ r. ts ++ r) c
  reached ts c e = subst (Sound l (want []) (λ r. ts ++ r)) e (sound_run ts (want []))

  pub accepts : (ts : List Tok) (v : Value) → runs l ts ≡ some (have v []) → Sentence l ts
  accepts ts v e =
      let g = reached ts (have v []) e in
      record { tree = v; of_level = g.level; yields = g.reads [] ∙ append-nil ts }

  pub sentence_runs : (ts : List Tok) (s : Sentence l ts) → runs l ts ≡ some (have s.tree [])
  sentence_runs ts s = subst (λ (x : List Tok). runs l x ≡ some (have s.tree [])) s.yields (accepted l s.tree s.of_level)

  pub same_tree : (v w : Value) → keeps l v ≡ true → keeps l w ≡ true → yield_value v [] ≡ yield_value w [] → v ≡ w
  same_tree v w d e y =
      let p : some (have v []) ≡ some (have w []) = sym (accepted l v d) ∙ ap (runs l) y ∙ accepted l w e in
      cc

  pub one_sentence : (ts : List Tok) (s r : Sentence l ts) → s.tree ≡ r.tree
  one_sentence ts s r = same_tree s.tree r.tree s.of_level r.of_level (s.yields ∙ sym r.yields)
