-- The backward arrow: where it is retired no accepted text has it, no node has role 3, and nothing is stored with it; what was written is still
-- accepted by the old rules. Assumes nothing.
use mathlib.Core.Path.{◌≡◌, refl, sym, subst, ◌∙◌}
use mathlib.Core.Bool.{Bool, true, false}
use mathlib.Core.List.{List}
use mathlib.Core.Option.{Option, none, some}
use Prim.Native.Nat.{ℕ, ◌<◌}
use native.Mathlib.Omega.{arith}
use lib.ListN.{length}
use Rattle.rules.specs.Every.{Every}
use Rattle.rules.proofs.Every.{every_at}
use Rattle.grammar.specs.Tree.{Value}
use Rattle.grammar.specs.Level.{Level, arrowless, keeps}
use Rattle.grammar.specs.Nodes.{Role, root, this, that_after, that_before, name, value, count, low, high, single, role_number, role_word, table, word_at}
use Rattle.grammar.proofs.NodeLaws.{no_node, node_at}
use Rattle.grammar.proofs.Retired.{no_that_before}
use Rattle.reading.specs.declared.Answer.{Answer}
use Rattle.reading.specs.declared.Rules.{Rules}
use Rattle.reading.specs.Sizes.{with_arrow}
use Rattle.reading.specs.Answers.{Reading, Answers, no_level, too_long, not_utf8, faulty, no_room, accepted}
use Rattle.reading.specs.Derived.{readable}
use Rattle.reading.specs.Tabled.{Tabled, shown}
use Rattle.reading.specs.Arrow.{NoArrows}
use Rattle.reading.proofs.Numbers.{refused_number, fault_number}
use Rattle.reading.proofs.Derived.{accepted_derived, derived_arrowless}
use Rattle.reading.specs.Buffer as Buffer
use Rattle.reading.proofs.Unique.{one_reading}
use Rattle.reading.proofs.Found.{found}
use Rattle.reading.proofs.Tabled.{held_word}
use Rattle.reading.proofs.Arrow.{reading_old, old_fifteen, never_fifteen}
use Rattle.files.specs.Writes.{Writes}
use Rattle.form.specs.Turn.{turn}
use Rattle.form.specs.Writes.{Converts, refused, told}
use Rattle.form.proofs.Turned.{turned}
use Rattle.demands.proofs.Exists.{some_reading}

-- ---- roles

role_3 : (r : Role) → role_number r ≡ 3 → r ≡ that_before
role_3 root e = absurd (omega (arith, e))
role_3 this e = absurd (omega (arith, e))
role_3 that_after e = absurd (omega (arith, e))
role_3 that_before e = refl
role_3 name e = absurd (omega (arith, e))
role_3 value e = absurd (omega (arith, e))
role_3 count e = absurd (omega (arith, e))
role_3 low e = absurd (omega (arith, e))
role_3 high e = absurd (omega (arith, e))
role_3 single e = absurd (omega (arith, e))

-- ---- readings

module _ (rules : Rules) (text : List ℕ) where
  module _ (arrow : rules.limits.arrow ≡ false) where
    pub no_arrows : {room number : ℕ} {r : Answer} {t : Option Value} → Reading rules text room number r t → r.number ≡ 0 → NoArrows text
    no_arrows {t = none} x e = absurd (refused_number rules text x e)
    no_arrows {t = some v} (accepted l h w a m) e = derived_arrowless rules.limits text arrow (accepted_derived rules.limits text a)

    -- the derivation has none
    without : {room number : ℕ} {r : Answer} {v : Value} → Reading rules text room number r (some v) → (l : Level) × (keeps (arrowless l) v ≡ true)
    without {v = v} (accepted {l = l} o h w a m) = (l, subst (λ (b : Bool). keeps (readable b l) v ≡ true) arrow (accepted_derived rules.limits text a).of_level)

    no_that_before_lem : {room number : ℕ} {r : Answer} {v : Value} → Reading rules text room number r (some v) → Every (λ n. n.role ≡ that_before → ⊥) (table v)
    no_that_before_lem {v = v} x = let w = without x in no_that_before w.0 v w.1

    pub unturned : {words : List ℕ} {level : ℕ} {r : Answer} {v : Value} → Tabled rules text words level r (some v) → turn v ≡ v
    unturned {v = v} (shown x h) = let w = without x in turned w.0 v w.1

    pub no_role_3 : (lent : List ℕ) {left : List ℕ} {number : ℕ} {r : Answer} (i : ℕ) → Answers rules text lent number r left → r.number ≡ 0 → i < r.count →
        word_at left i role_word ≡ 3 → ⊥
    no_role_3 lent {left} {number} i a e h is =
        let f = found rules text lent left number a e in
        let l : i < length (table f.tree) = omega (arith, h, f.count_is) in
        every_at (no_that_before_lem f.read) no_node i l (role_3 (node_at (table f.tree) i).role (sym (held_word left f.tree f.holds i role_word l (omega arith)) ∙ is))

  -- what today's rules accept, the old ones do
  pub answers_old : {lent left : List ℕ} {number : ℕ} {r : Answer} → Answers rules text lent number r left → (r.number ≡ 15 → ⊥) → Answers (with_arrow rules) text lent number r left
  answers_old a h = record { tree = a.tree; reading = reading_old rules text a.reading h; left_is = a.left_is }

  pub read_old : {room number : ℕ} {r : Answer} {v : Value} → Reading rules text room number r (some v) → Reading (with_arrow rules) text room number r (some v)
  read_old (accepted l h w a m) = reading_old rules text (accepted l h w a m) (λ e. omega (arith, e))

  -- of a text without an arrow the old reading is today's
  pub read_new : NoArrows text → {room number : ℕ} {r : Answer} {t : Option Value} → Reading (with_arrow rules) text room number r t → Reading rules text room number r t
  read_new n {room} {number} {r} {t} x =
      let y = some_reading rules text room number in
      let o = one_reading (with_arrow rules) text (reading_old rules text y.2 (never_fifteen rules text n y.2)) x in
      subst (λ (s : Answer). Reading rules text room number s t) o.0 (subst (λ (u : Option Value). Reading rules text room number y.0 u) o.1 y.2)

  -- a reading is never 14
  pub never_14 : {room number : ℕ} {r : Answer} {t : Option Value} → Reading rules text room number r t → r.number ≡ 14 → ⊥
  never_14 (no_level f) e = omega (arith, e)
  never_14 (too_long l h) e = omega (arith, e)
  never_14 (not_utf8 l h b) e = omega (arith, e)
  never_14 (faulty l h w f) e = fault_number rules.limits text 14 refl f.fault e
  never_14 (no_room l h w a m) e = omega (arith, e)
  never_14 (accepted l h w a m) e = omega (arith, e)

-- ---- stored files

module _ (rules : Rules) (text : List ℕ) where
  pub writes_old : {lent left : List ℕ} {r : Answer} → Writes rules text lent r left → (r.number ≡ 15 → ⊥) → Writes (with_arrow rules) text lent r left
  writes_old (Writes.refused x) h = Writes.refused (reading_old rules text x h)
  writes_old (Writes.no_room x m) h = Writes.no_room (read_old rules text x) m
  writes_old (Writes.written x m) h = Writes.written (read_old rules text x) m

  pub stored_arrowless : {lent left : List ℕ} {r : Answer} → rules.limits.arrow ≡ false → Writes rules text lent r left → r.number ≡ 0 → NoArrows text
  stored_arrowless a (Writes.refused x) e = absurd (refused_number rules text x e)
  stored_arrowless a (Writes.no_room x m) e = absurd (omega (arith, e))
  stored_arrowless a (Writes.written (accepted l h w y k) m) e = no_arrows rules text a (accepted l h w y k) refl

-- ---- conversions

module _ (rules : Rules) (text : List ℕ) {level : ℕ} where
  pub converted_14 : {lent left : List ℕ} {r : Answer} → Converts (with_arrow rules) text lent level r left → r.number ≡ 14 → ⊥
  converted_14 (refused x) e = never_14 (with_arrow rules) text x e
  converted_14 (told x (Buffer.no_room m)) e = omega (arith, e)
  converted_14 (told x (Buffer.written m)) e = omega (arith, e)

  pub converted_15 : {lent left : List ℕ} {r : Answer} → Converts (with_arrow rules) text lent level r left → r.number ≡ 15 → ⊥
  converted_15 (refused x) e = old_fifteen (with_arrow rules) text refl x e
  converted_15 (told x (Buffer.no_room m)) e = omega (arith, e)
  converted_15 (told x (Buffer.written m)) e = omega (arith, e)
