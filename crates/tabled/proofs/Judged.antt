-- The answers of judging a text with its table, by what a reading into another table found. Assumes nothing.
use mathlib.Core.Path.{◌≡◌, sym, ap, subst, ◌∙◌}
use mathlib.Core.List.{List}
use mathlib.Core.Option.{Option}
use Prim.Native.Nat.{ℕ, ◌*◌, min}
use native.Mathlib.Omega.{arith}
use lib.ListN.{length, take}
use Rattle.grammar.specs.Tree.{Value}
use Rattle.grammar.specs.Nodes.{table, node_words}
use Rattle.reading.specs.declared.Answer.{Answer}
use Rattle.reading.specs.Sizes.{base, room}
use Rattle.reading.specs.Answers.{answer, Reading, Answers}
use Rattle.reading.specs.Tabled.{Holds, Judged, Judges, refused, other_table, shown}
use Rattle.reading.proofs.Found as Found
use Rattle.reading.proofs.Found.{Found, found}

module _ {text lent left : List ℕ} {number : ℕ} {a : Answer} (words : List ℕ) (as_long : length lent ≡ min (base.nodes * node_words) (length words)) (x : Answers base text lent number a left) where
  same_room : room base (length lent) ≡ room base (length words)
  same_room = omega (arith, as_long)

  with_room : {t : Option Value} → Reading base text (room base (length lent)) number a t → Judged base text words number a t
  with_room {t} y = subst (λ (n : ℕ). Reading base text n number a t) same_room y

  pub is_refused : (a.number ≡ 0 → ⊥) → Judges base text words number a
  is_refused n = record { tree = _; tabled = refused (with_room (Found.refused base text x.tree x.reading n)) }

  module _ (e : a.number ≡ 0) where
    f : Found base text lent left number a
    f = found base text lent left number x e

    words_are : (l : List ℕ) → take (a.count * node_words) l ≡ take (node_words * length (table f.tree)) l
    words_are l =
        let e : a.count * node_words ≡ node_words * length (table f.tree) = omega (arith, f.count_is) in
        ap (λ (n : ℕ). take n l) e

    pub is_shown : take (a.count * node_words) left ≡ take (a.count * node_words) words → Judges base text words number a
    is_shown s = record { tree = _; tabled = shown (with_room f.read) (sym (words_are words) ∙ sym s ∙ words_are left ∙ f.holds) }

    pub is_other : {b : Answer} → b ≡ answer 14 0 0 → (take (a.count * node_words) left ≡ take (a.count * node_words) words → ⊥) →
        Judges base text words number b
    is_other is n =
        let other : Holds words f.tree → ⊥ = λ h. n (words_are left ∙ f.holds ∙ sym h ∙ sym (words_are words)) in
        subst (Judges base text words number) (sym is) (record { tree = _; tabled = other_table (with_room f.read) other })
