-- The answer for nodes that are a text's, by what was written over an empty part of the buffer and over the whole. Assumes nothing.
use mathlib.Core.Path.{◌≡◌, refl, sym, ap, subst, ◌∙◌}
use mathlib.Core.List.{List, [], ◌++◌, append-nil}
use Prim.Native.Nat.{ℕ, ◌*◌, ◌≤◌, ◌<◌}
use native.Mathlib.Omega.{arith}
use lib.ListN.{length}
use Rattle.grammar.specs.Tree.{Value}
use Rattle.grammar.specs.Level.{Level}
use Rattle.grammar.specs.Nodes
use Rattle.grammar.specs.Nodes.{table, table_words}
use Rattle.reading.specs.declared.Answer.{Answer}
use Rattle.reading.specs.declared.Limits.{Limits}
use Rattle.reading.specs.Answers.{Accepted, answer}
use Rattle.reading.specs.Buffer.{Fills, no_room, written}
use Rattle.buffer.specs.Puts.{largest, Puts}
use Rattle.buffer.specs.Wrote.{Wrote}
use Rattle.buffer.proofs.Puts.{puts_empty, puts_start}
use Rattle.form.specs.Spell.{plain_form}
use Rattle.grammar.proofs.Branches.{grow}
use Rattle.grammar.proofs.Flat.{table_flat}
use Rattle.form.proofs.Walked.{walked}
use Rattle.form.proofs.Length.{plain_short}
use Rattle.plain.specs.Nodes.{NodeBytes}
use Rattle.plain.specs.Calls.{Filled, Fitted}

module _ {text words : List ℕ} where
  -- the first node is the whole text's
  root_bytes : {limits : Limits} {l : Level} {v : Value} → Accepted limits text l v → words ≡ table_words (table v) →
      NodeBytes text words 0 (plain_form text v)
  root_bytes {v = v} a e =
      record {
        b = grow v Nodes.root;
        parent = 0;
        stands =
            record {
              before = [];
              behind = [];
              words_are = e ∙ ap table_words (table_flat v) ∙ sym (append-nil _);
              index_is = refl;
            };
        walked = walked text a;
      }

  module _ (long : 2 * length text ≤ largest) where
    -- the plain form was put, and the place behind it is its length
    puts_plain : {limits : Limits} {l : Level} {v : Value} {t u : List ℕ} {n : ℕ} → Accepted limits text l v → words ≡ table_words (table v) →
        Wrote (NodeBytes text words 0) t 0 u n → Puts t 0 (plain_form text v) u n × (length (plain_form text v) ≡ n)
    puts_plain {limits} {l} {v} a e w =
        let p = w.puts (plain_form text v) (root_bytes a e) in
        (p, omega (arith, p.ends, long, plain_short limits l text v a))

    pub fills : {lent u : List ℕ} {n : ℕ} → Wrote (NodeBytes text words 0) lent 0 u n → Filled text words lent (answer 0 (length text) n) u
    fills {lent} {u} w limits l v a e g =
        let p = puts_plain a e w in
        let bs = plain_form text v in
        subst (λ (j : ℕ). Fills lent (length text) bs (answer 0 (length text) j) u) p.1
        (subst (λ (x : List ℕ). Fills lent (length text) bs (answer 0 (length text) (length bs)) x) (sym (puts_start p.0 g)) (written g))

    module _ {lent t t' : List ℕ} {n : ℕ} (measured : Wrote (NodeBytes text words 0) t 0 t' n) (empty : length t ≡ 0) where
      pub too_small : length (t' ++ lent) < n → Fitted text words lent (answer 8 (length text) n) (t' ++ lent)
      too_small h limits l v a e =
          let p = puts_plain a e measured in
          let k = puts_empty p.0 empty lent in
          subst (λ (x : List ℕ). Fills lent (length text) (plain_form text v) (answer 8 (length text) n) x) (sym k)
          (subst (λ (m : ℕ). Fills lent (length text) (plain_form text v) (answer 8 (length text) m) lent) p.1
          (no_room (omega (arith, h, p.1, ap length k))))

      pub fits : {r : Answer} {u : List ℕ} → n ≤ length (t' ++ lent) → Filled text words (t' ++ lent) r u → Fitted text words lent r u
      fits {r} {u} h f limits l v a e =
          let p = puts_plain a e measured in
          subst (λ (x : List ℕ). Fills x (length text) (plain_form text v) r u) (puts_empty p.0 empty lent)
          (f limits l v a e (omega (arith, h, p.1)))

  -- the plain form is at most twice the text
  pub long_enough : {lent u : List ℕ} {r : Answer} → 2 * length text ≤ length lent → Filled text words lent r u → Fitted text words lent r u
  long_enough h f limits l v a e = f limits l v a e (omega (arith, h, plain_short limits l text v a))
