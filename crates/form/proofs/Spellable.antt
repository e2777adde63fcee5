-- Every row of tokens that a tree of a level stands for can be spelled: each token by the sample of its class, one behind the other.
-- Assumes nothing.
use mathlib.Core.Path.{◌≡◌, refl, sym, subst, ap, ◌∙◌}
use mathlib.Core.Bool.{true}
use mathlib.Core.List.{List, [], ◌∷◌}
use native.Mathlib.Omega.{arith}
use Rattle.rules.specs.Rule.{many}
use Rattle.rules.proofs.Plain.{takes_whole}
use Rattle.lexicon.specs.Utf8.{sequence}
use Rattle.lexicon.proofs.Determined.{past_end}
use Rattle.grammar.specs.Tokens.{Class, Tok}
use Rattle.grammar.specs.Tree.{Value}
use Rattle.grammar.specs.Yield.{yield_value}
use Rattle.grammar.specs.Level.{Level, keeps}
use Rattle.grammar.proofs.Moved.{keeps_moved}
use Rattle.reading.specs.Tokens.{Follow}
use Rattle.form.specs.Spell.{Spelt, bytes_of}
use Rattle.form.specs.Spellable.{classes, Spellable}
use Rattle.form.proofs.Spelts.{toks, end_of, end_is, Standing, sound_all}
use Rattle.form.proofs.Neighbours.{standing, after_nothing, separate_all}
use Rattle.form.proofs.Plain.{spelts_front, spelts_formed}
use Rattle.form.proofs.Reshape.{away, blank, reshape_all}
use Rattle.form.proofs.Classes.{spelt_classes, tok_classes}
use Rattle.form.proofs.Samples.{samples, samples_lone}
use Rattle.form.proofs.Yielded.{yielded_neighbours}

sample_classes : (ts : List Tok) → spelt_classes (samples ts) ≡ classes ts
sample_classes [] = refl
sample_classes (t ∷ ts) = ap (λ (cs : List Class). t.class ∷ cs) (sample_classes ts)

module _ (l : Level) (v : Value) (of_level : keeps l v ≡ true) where
  abbrev ws : List Spelt
  ws = samples (yield_value v [])

  same : classes (toks 0 ws) ≡ classes (yield_value v [])
  same = tok_classes 0 ws ∙ sample_classes (yield_value v [])

  -- the tree of the text: v but for its spans
  found : (w : Value) × (toks 0 ws ≡ yield_value w []) × (blank w ≡ blank v)
  found = reshape_all v (toks 0 ws) same

  stands : Standing [] ws
  stands = standing [] ws (samples_lone (yield_value v [])) (yielded_neighbours v) (λ x i o. after_nothing o.kind)

  pub spellable : Spellable l v
  spellable =
      record {
        text = bytes_of ws;
        formed = (takes_whole (many sequence) (bytes_of ws)).1 (spelts_formed ws (samples_lone (yield_value v [])));
        front = spelts_front ws (samples_lone (yield_value v []));
        tree = found.0;
        of_level = sym (keeps_moved away l found.0) ∙ ap (keeps l) found.2 ∙ keeps_moved away l v ∙ of_level;
        end = end_of 0 ws;
        row = subst (λ (ts : List Tok). Follow (bytes_of ws) 0 ts (end_of 0 ws)) found.1
            (separate_all ws (samples_lone (yield_value v [])) (yielded_neighbours v));
        at_end = past_end (bytes_of ws) (end_of 0 ws) (omega (arith, end_is ws 0));
        sound = λ f c b. sound_all (bytes_of ws) stands refl f c b;
        same_classes = ap classes (sym found.1) ∙ same;
      }
