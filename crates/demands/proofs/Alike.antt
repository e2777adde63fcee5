-- Readings of a text and of its plain form end alike at every level: the two have the same forms and as many nodes. Assumes nothing.
use mathlib.Core.Path.{◌≡◌, refl, sym, ap, subst, ◌∙◌}
use mathlib.Core.Bool.{true, false}
use mathlib.Core.Logic.{◌⊎◌, inl, inr}
use mathlib.Core.List.{List}
use mathlib.Core.Option.{Option}
use Prim.Native.Nat.{ℕ, ◌≤◌}
use native.Mathlib.Omega.{arith}
use lib.ListN.{length, take, drop}
use lib.Seq.{take-append_seam}
use Rattle.rules.proofs.Bools.{decide, clash}
use Rattle.lexicon.specs.Utf8.{WellFormed}
use Rattle.lexicon.proofs.Determined.{formed_or_bad}
use Rattle.grammar.specs.Tree.{Value}
use Rattle.grammar.specs.Level.{Level, left_arrows, keeps, ◌Within◌}
use Rattle.grammar.specs.Nodes.{table}
use Rattle.grammar.proofs.OneTree.{every_form, all_values}
use Rattle.reading.specs.declared.Answer.{Answer}
use Rattle.reading.specs.declared.Rules.{Rules}
use Rattle.reading.specs.Faults.{FirstFault}
use Rattle.reading.specs.Answers.{LevelOf, first, second, Accepted, Reading, no_level, too_long, not_utf8, faulty, no_room, accepted}
use Rattle.reading.specs.Tabled as Tabled
use Rattle.reading.specs.Tabled.{other_table, shown}
use Rattle.reading.specs.Buffer as Buffer
use Rattle.reading.specs.Buffer.{written}
use Rattle.reading.proofs.Numbers.{refused_number}
use Rattle.reading.proofs.Rows.{Order, equal, less, more, order}
use Rattle.reading.proofs.First.{all_or_fault}
use Rattle.reading.proofs.Unique.{one_level, one_tree_lem, one_reading}
use Rattle.reading.proofs.Derived.{derived_accepted, accepted_derived, derived_at}
use Rattle.reading.proofs.Agree.{first_too, all_too}
use Rattle.form.specs.Spell.{plain_form}
use Rattle.form.specs.Reread.{Reread}
use Rattle.form.specs.Writes.{Writes, Converts, refused, told}
use Rattle.form.proofs.SameForms.{same_forms}
use Rattle.form.proofs.Answered.{again_by, same_many}

-- every level of 01 has the arrow `<-`
has_arrow : {n : ℕ} {l : Level} → LevelOf n l → l left_arrows ≡ true
has_arrow first = refl
has_arrow second = refl

-- ---- a text with a derivation, read at any level

module _ (rules : Rules) (text : List ℕ) {l : Level} {v : Value} (a : Accepted rules.limits text l v) where
  -- it is accepted where the level has the derivation's forms
  with_forms : {m : Level} → keeps m v ≡ true → Accepted rules.limits text m v
  with_forms k = derived_accepted rules.limits text (derived_at rules.limits text (accepted_derived rules.limits text a) k)

  at_every_form : Accepted rules.limits text every_form v
  at_every_form = with_forms (all_values v)

  module _ {n : ℕ} {m : Level} (o : LevelOf n m) where
    within : m Within every_form
    within = record { has_too = λ f e. refl }

    its_tree : {w : Value} → Accepted rules.limits text m w → w ≡ v
    its_tree {w} x =
        one_tree_lem rules.limits text refl (record { of_level = all_values w; passed = all_too text rules.limits m every_form within (has_arrow o) x.passed }) at_every_form

    its_forms : {w : Value} → Accepted rules.limits text m w → keeps m v ≡ true
    its_forms x = subst (λ (u : Value). keeps m u ≡ true) (its_tree x) x.of_level

    -- a fault is a newer form: any other would be one where the level has every form
    newer : {k p : ℕ} → FirstFault rules.limits m text k p → k ≡ 7
    newer {k} f = by (order k 7)
      where
        no_other : (k ≡ 7 → ⊥) → ⊥
        no_other h = all_or_fault text rules.limits every_form at_every_form.passed (first_too text rules.limits m every_form within (has_arrow o) h f)

        by : Order k 7 → k ≡ 7
        by (equal e) = e
        by (less h) = absurd (no_other (λ e. omega (arith, e, h)))
        by (more h) = absurd (no_other (λ e. omega (arith, e, h)))

    module _ (short : length text ≤ rules.text) (formed : WellFormed text) (lacks : keeps m v ≡ false) where
      -- and where the level lacks one of them it is refused so
      refused_newer : {space : ℕ} {r : Answer} {t : Option Value} → Reading rules text space n r t → (r.number ≡ 7) × (r.count ≡ 0)
      refused_newer (no_level f) = absurd (f m o)
      refused_newer (too_long k h) = absurd (omega (arith, h, short))
      refused_newer (not_utf8 k h b) = absurd (formed_or_bad text formed b)
      refused_newer (faulty {n = c} {p = p} k h w f) = (newer (subst (λ (x : Level). FirstFault rules.limits x text c p) (one_level k o) f), refl)
      refused_newer (no_room {v = u} k h w x g) = absurd (clash (its_forms (subst (λ (y : Level). Accepted rules.limits text y u) (one_level k o) x)) lacks)
      refused_newer (accepted {v = u} k h w x g) = absurd (clash (its_forms (subst (λ (y : Level). Accepted rules.limits text y u) (one_level k o) x)) lacks)

-- ---- the text and its plain form

-- the text is read by some rules, and its plain form by rules of at least their depth
module _ (rules other : Rules) (depth : rules.limits.depth ≤ other.limits.depth) (l : Level) (text : List ℕ) (v : Value) (a : Accepted rules.limits text l v)
    (short : length text ≤ rules.text) (formed : WellFormed text) (fits : length (plain_form text v) ≤ other.text)
    {space n : ℕ} {s : Answer} {u : Option Value} (y : Reading other (plain_form text v) space n s u) where
  abbrev out : Reread other.limits text l v
  out = again_by rules.limits other depth l text v a

  forms : {m : Level} → LevelOf n m → keeps m out.tree ≡ keeps m v
  forms {m} o = same_forms rules.limits l text v a other.limits out.accepted m (has_arrow o)

  out_accepted : {m : Level} → LevelOf n m → keeps m v ≡ true → Accepted other.limits (plain_form text v) m out.tree
  out_accepted o k = with_forms other (plain_form text v) out.accepted (forms o ∙ k)

  nodes : {m : Level} {w : Value} → LevelOf n m → Accepted rules.limits text m w → length (table out.tree) ≡ length (table w)
  nodes o x = same_many rules.limits other depth l text v a ∙ ap (λ (w : Value). length (table w)) (sym (its_tree rules text a o x))

  same_answer : {r : Answer} {t : Option Value} → Reading other (plain_form text v) space n r t → (r.number ≡ s.number) × (r.count ≡ s.count)
  same_answer x = let e = (one_reading other (plain_form text v) x y).0 in (ap (λ (r : Answer). r.number) e, ap (λ (r : Answer). r.count) e)

  alike : {r : Answer} {t : Option Value} → Reading rules text space n r t → (r.number ≡ s.number) × (r.count ≡ s.count)
  alike (no_level f) = same_answer (no_level f)
  alike (too_long o h) = absurd (omega (arith, h, short))
  alike (not_utf8 o h b) = absurd (formed_or_bad text formed b)
  alike (faulty {l = m} {n = k} o h w f) = by (decide (keeps m v))
    where
      by : (keeps m v ≡ true) ⊎ (keeps m v ≡ false) → (k ≡ s.number) × (0 ≡ s.count)
      by (inl e) = absurd (all_or_fault text rules.limits m (with_forms rules text a e).passed f)
      by (inr e) =
          let z = refused_newer other (plain_form text v) out.accepted o fits out.formed (forms o ∙ e) y in
          (newer rules text a o f ∙ sym z.0, sym z.1)
  alike (no_room o h w x g) =
      let e = nodes o x in
      let z = same_answer (no_room o fits out.formed (out_accepted o (its_forms rules text a o x)) (omega (arith, e, g))) in
      (z.0, sym e ∙ z.1)
  alike (accepted o h w x g) =
      let e = nodes o x in
      let z = same_answer (accepted o fits out.formed (out_accepted o (its_forms rules text a o x)) (omega (arith, e, g))) in
      (z.0, sym e ∙ z.1)

-- ---- what a call has written

module _ (text : List ℕ) {space n : ℕ} {a b : Answer} {t u : Option Value} {level : ℕ} where
  -- by a call of request 5, to the same rules
  pub written_alike : {lent left : List ℕ} {r : Answer} (rules : Rules) (words : List ℕ) → Writes rules text words lent level r left → r.number ≡ 0 → r.count ≤ rules.text →
      Reading rules text space n a t → Reading rules (take r.count left) space n b u → (a.number ≡ b.number) × (a.count ≡ b.count)
  written_alike rules words (refused (Tabled.refused x)) e h y z = absurd (refused_number rules text x e)
  written_alike rules words (refused (other_table x k)) e h y z = absurd (omega (arith, e))
  written_alike rules words (told x (Buffer.no_room g)) e h y z = absurd (omega (arith, e))
  written_alike {lent} rules words (told {v = v} (shown (accepted {l} o s w c k) i) (written g)) e h y z =
      alike rules rules (omega arith) l text v c s w h
      (subst (λ (p : List ℕ). Reading rules p space n b u) (take-append_seam (plain_form text v) (drop (length (plain_form text v)) lent)) z) y

  -- by the converter, to rules of at least its depth
  pub converted_alike : {lent left : List ℕ} {r : Answer} (rules other : Rules) → rules.limits.depth ≤ other.limits.depth → Converts rules text lent level r left → r.number ≡ 0 →
      r.count ≤ other.text → Reading rules text space n a t → Reading other (take r.count left) space n b u → (a.number ≡ b.number) × (a.count ≡ b.count)
  converted_alike rules other depth (refused x) e h y z = absurd (refused_number rules text x e)
  converted_alike rules other depth (told x (Buffer.no_room g)) e h y z = absurd (omega (arith, e))
  converted_alike {lent} rules other depth (told {v = v} (accepted {l} o s w c k) (written g)) e h y z =
      alike rules other depth l text v c s w h
      (subst (λ (p : List ℕ). Reading other p space n b u) (take-append_seam (plain_form text v) (drop (length (plain_form text v)) lent)) z) y
