-- Demand 2: what the answers accept, token by token, are exactly the texts that have a derivation, sound literals and the sizes.
-- Assumes nothing.
use mathlib.Core.Path.{◌≡◌, refl, ap, subst}
use mathlib.Core.Logic.{◌⊎◌, inl, inr, ◌↔◌}
use mathlib.Core.List.{List}
use mathlib.Core.Option.{Option, some}
use Prim.Native.Nat.{ℕ, ◌≤◌, ◌<◌}
use native.Mathlib.Omega.{arith}
use lib.ListN.{length}
use Rattle.lexicon.specs.Utf8.{WellFormed}
use Rattle.grammar.specs.Tree.{Value}
use Rattle.grammar.specs.Level.{Level}
use Rattle.grammar.specs.Nodes.{table}
use Rattle.reading.specs.declared.Answer.{Answer}
use Rattle.reading.specs.declared.Rules.{Rules}
use Rattle.reading.specs.Sizes.{room}
use Rattle.reading.specs.Answers.{LevelOf, Reading, Answers, no_level, too_long, not_utf8, faulty, no_room, accepted}
use Rattle.reading.proofs.Rows.{Order, equal, less, more, order}
use Rattle.reading.proofs.Numbers.{fault_number}
use Rattle.reading.proofs.Unique.{one_level, one_reading, one_answer}
use Rattle.reading.specs.Derived.{Derived}
use Rattle.reading.proofs.Derived.{derived_accepted, accepted_derived}
use Rattle.demands.specs.Derived.{Acceptable, Shows, Decides}

-- ---- the answers

-- the two numbers under which a text has a derivation: accepted, and no room
abbrev Passes : ℕ → Type 0
Passes n = (n ≡ 0) ⊎ (n ≡ 8)

no_pass : {n : ℕ} → (n ≡ 0 → ⊥) → (n ≡ 8 → ⊥) → Passes n → ⊥
no_pass f g (inl e) = f e
no_pass f g (inr e) = g e

module _ (rules : Rules) (bytes lent : List ℕ) where
  module _ (number : ℕ) where
    -- what stands behind an answer with one of them
    record Found (r : Answer) : Type 0 where
      level : Level
      level_is : LevelOf number level
      short : length bytes ≤ rules.text
      formed : WellFormed bytes
      tree : Value
      derived : Derived rules.limits level bytes tree
      fits : r.number ≡ 0 → length (table tree) ≤ room rules (length lent)
      lacks : r.number ≡ 8 → room rules (length lent) < length (table tree)

    found : {r : Answer} {t : Option Value} → Reading rules bytes (room rules (length lent)) number r t → Passes r.number → Found r
    found (no_level f) e = absurd (no_pass (λ e. omega (arith, e)) (λ e. omega (arith, e)) e)
    found (too_long l h) e = absurd (no_pass (λ e. omega (arith, e)) (λ e. omega (arith, e)) e)
    found (not_utf8 l h b) e = absurd (no_pass (λ e. omega (arith, e)) (λ e. omega (arith, e)) e)
    found (faulty l h w f) e = absurd (no_pass (fault_number rules.limits bytes 0 refl f.fault) (fault_number rules.limits bytes 8 refl f.fault) e)
    found (no_room {l = l} {v = v} o h w a m) e =
        record {
          level = l;
          level_is = o;
          short = h;
          formed = w;
          tree = v;
          derived = accepted_derived rules.limits bytes a;
          fits = λ z. absurd (omega (arith, z));
          lacks = λ z. m;
        }
    found (accepted {l = l} {v = v} o h w a m) e =
        record {
          level = l;
          level_is = o;
          short = h;
          formed = w;
          tree = v;
          derived = accepted_derived rules.limits bytes a;
          fits = λ z. m;
          lacks = λ z. absurd (omega (arith, z));
        }

    -- demand 2, for every level number, text and lent table
    pub decides : {r : Answer} {t : List ℕ} → Answers rules bytes lent number r t → Decides rules bytes lent number r t
    decides {r} {t} a = record { only = λ e. only (found a.reading (inl e)) e; whenever = whenever }
      where
        only : Found r → r.number ≡ 0 → (v : Value) × Acceptable rules bytes lent number v
        only f e = (f.tree, record { level = f.level; level_is = f.level_is; short = f.short; formed = f.formed; derived = f.derived; fits = f.fits e })

        whenever : {v : Value} → Acceptable rules bytes lent number v → Shows rules bytes lent v r t
        whenever {v} c =
            let o = one_answer rules bytes lent a (record { tree = some v; reading = accepted c.level_is c.short c.formed (derived_accepted rules.limits bytes c.derived) c.fits; left_is = refl }) in
            record {
              number_is = ap (λ (x : Answer). x.number) o.0;
              place_is = ap (λ (x : Answer). x.place) o.0;
              count_is = ap (λ (x : Answer). x.count) o.0;
              table_is = o.1;
            }

    -- at a level, of a text that is UTF-8 and not too long
    module _ {l : Level} {r : Answer} {t : List ℕ}
        (o : LevelOf number l) (h : length bytes ≤ rules.text) (w : WellFormed bytes) (a : Answers rules bytes lent number r t) where
      at_level_lem : (f : Found r) → Derived rules.limits l bytes f.tree
      at_level_lem f = subst (λ (x : Level). Derived rules.limits x bytes f.tree) (one_level f.level_is o) f.derived

      roomy : {v : Value} → Derived rules.limits l bytes v → length (table v) ≤ room rules (length lent) → r.number ≡ 0
      roomy d m = ap (λ (x : Answer). x.number) (one_reading rules bytes a.reading (accepted o h w (derived_accepted rules.limits bytes d) m)).0

      crammed : {v : Value} → Derived rules.limits l bytes v → room rules (length lent) < length (table v) → r.number ≡ 8
      crammed d m = ap (λ (x : Answer). x.number) (one_reading rules bytes a.reading (no_room o h w (derived_accepted rules.limits bytes d) m)).0

      -- the answer's number is 0 or 8 exactly when the text has a derivation
      pub derivable : ((r.number ≡ 0) ⊎ (r.number ≡ 8)) ↔ ((v : Value) × Derived rules.limits l bytes v)
      derivable = (λ e. let f = found a.reading e in (f.tree, at_level_lem f), λ d. by d.1 (order (room rules (length lent)) (length (table d.0))))
        where
          by : {v : Value} → Derived rules.limits l bytes v → Order (room rules (length lent)) (length (table v)) → (r.number ≡ 0) ⊎ (r.number ≡ 8)
          by d (equal e) = inl (roomy d (omega (arith, e)))
          by d (less m) = inr (crammed d m)
          by d (more m) = inl (roomy d (omega (arith, m)))

      -- 0 exactly when moreover its nodes have room
      pub acceptable : (r.number ≡ 0) ↔ ((v : Value) × Derived rules.limits l bytes v × (length (table v) ≤ room rules (length lent)))
      acceptable = (λ e. let f = found a.reading (inl e) in (f.tree, at_level_lem f, f.fits e), λ d. roomy d.1 d.2)

      -- and 8 when they have none
      pub roomless : (r.number ≡ 8) ↔ ((v : Value) × Derived rules.limits l bytes v × (room rules (length lent) < length (table v)))
      roomless = (λ e. let f = found a.reading (inr e) in (f.tree, at_level_lem f, f.lacks e), λ d. crammed d.1 d.2)
