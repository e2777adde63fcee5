-- The three demands, proved of every answer. Assumes nothing.
use mathlib.Core.Path.{◌≡◌, refl, sym, ap, subst, ◌∙◌}
use mathlib.Core.List.{List, [], ◌++◌}
use mathlib.Core.Option.{Option}
use Prim.Native.Nat.{ℕ, ◌*◌}
use lib.ListN.{length, drop}
use Rattle.grammar.specs.Tree.{Value}
use Rattle.grammar.specs.Nodes.{Node, table_words, node_words}
use Rattle.reading.specs.declared.Answer.{Answer}
use Rattle.reading.specs.declared.Rules.{Rules}
use Rattle.reading.specs.Answers.{Reading, Answers, nodes_of, no_level, too_long, not_utf8, faulty, no_room, accepted}
use Rattle.reading.proofs.Unique.{one_answer}
use Rattle.reading.proofs.Agree.{levels_agree}
use Rattle.values.proofs.IntegerExists as IntegerExists
use Rattle.values.specs.Bytes.{Call}
use Rattle.values.specs.Text.{text_call}
use Rattle.values.specs.Bits.{bits_call}
use Rattle.values.specs.Blob.{blob_call}
use Rattle.values.proofs.BytesDetermined.{Settled, refused_keeps}
use Rattle.values.proofs.BytesExists as BytesExists
use Rattle.values.proofs.Texts.{text_settled}
use Rattle.values.proofs.BitsAndBlobs.{bits_settled, blob_settled}
use Rattle.demands.specs.Demands.{OneOf, ValueAnswers, Answered, Demand1, Demand2, Demand3, Demands}
use Rattle.demands.proofs.Derived.{decides}
use Rattle.demands.proofs.Exists.{some_answer}
use Rattle.demands.proofs.Pieces.{pieces}

module _ (rules : Rules) (bytes lent : List ℕ) {number : ℕ} where
  -- a refused reading has no derivation, so nothing is written
  no_tree : {room : ℕ} {r : Answer} {t : Option Value} → Reading rules bytes room number r t → (r.number ≡ 0 → ⊥) → nodes_of t ≡ []
  no_tree (no_level f) h = refl
  no_tree (too_long l g) h = refl
  no_tree (not_utf8 l g b) h = refl
  no_tree (faulty l g w d) h = refl
  no_tree (no_room l g w a m) h = refl
  no_tree (accepted l g w a m) h = absurd (h refl)

  pub answered : {r : Answer} {left : List ℕ} → Answers rules bytes lent number r left → Answered rules bytes lent number r left
  answered {r} {left} a =
      record {
        answers = a;
        only = λ s u b. one_answer rules bytes lent b a;
        unchanged = λ h. a.left_is ∙ ap (λ (ns : List Node). table_words ns ++ drop (node_words * length ns) lent) (no_tree a.reading h);
      }

pub every_answer : Demand1
every_answer rules bytes lent number = let x = some_answer rules bytes lent number in (x.0, x.1, answered rules bytes lent x.2)

bytes_answered : (call : Call) → Settled call → (rules : Rules) (piece lent : List ℕ) → OneOf call rules piece lent
bytes_answered call settled rules piece lent =
    let x = BytesExists.exactly_one call settled rules piece lent in
    (x.0, x.1, record { answers = x.2; only = x.3; unchanged = refused_keeps call rules piece lent x.2 })

pub every_value : ValueAnswers
every_value rules piece lent = (
  IntegerExists.exactly_one rules piece,
  bytes_answered text_call text_settled rules piece lent,
  bytes_answered bits_call bits_settled rules piece lent,
  bytes_answered blob_call blob_settled rules piece lent,
)

pub every_decision : Demand2
every_decision rules bytes lent number r left a =
    record { decides = decides rules bytes lent number a; values = λ v c. pieces rules bytes c.short c.formed c.derived }

pub old_and_new : Demand3
old_and_new rules bytes lent old new old_left new_left a b = levels_agree rules bytes lent a b

pub all_demands : {rules : Rules} {bytes first second old_left new_left : List ℕ} {old new : Answer} →
    Answers rules bytes first 1 old old_left → Answers rules bytes second 2 new new_left → Demands rules bytes first second old old_left new new_left
all_demands {rules} {bytes} {first} {second} {old_left} {new_left} {old} {new} a b =
    record {
      old_answered = answered rules bytes first a;
      new_answered = answered rules bytes second b;
      old_derives = every_decision rules bytes first 1 old old_left a;
      new_derives = every_decision rules bytes second 2 new new_left b;
      agree = λ e. levels_agree rules bytes first a (subst (λ (t : List ℕ). Answers rules bytes t 2 new new_left) (sym e) b);
    }
