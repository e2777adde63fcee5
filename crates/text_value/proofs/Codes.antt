-- The number of a code point literal. Assumes nothing.
use mathlib.Core.Path.{◌≡◌, sym, ap, ◌∙◌}
use mathlib.Core.List.{List, foldl}
use Prim.Native.Nat.{ℕ, ◌+◌, ◌-◌, ◌≤◌, ◌<◌, min}
use native.Mathlib.Omega.{arith}
use lib.ListN.{length, take, drop}
use Rattle.rules.specs.Rule.{lit, Takes, both}
use Rattle.rules.proofs.Matches.{forward, inside}
use Rattle.lexicon.specs.declared.Base.{Base}
use Rattle.lexicon.specs.Bytes.{radix}
use Rattle.lexicon.specs.Literals.{code_of_base, code_point_of}
use Rattle.lexicon.specs.Limited.{limit, limited}
use Rattle.lexicon.specs.Values.{value, CodeOf}
use Rattle.lexicon.proofs.Bases.{some_base}
use Rattle.lexicon.proofs.Limits.{limited_value}
use Rattle.lexicon.specs.Parts.{Marked}
use Rattle.string.specs.Parts.{number_at}
use Rattle.lexicon.proofs.Marks.{begins, mark_long, first_digit}
use Rattle.text_value.specs.Parts.{CodeIs}
use Rattle.text_value.proofs.Copies.{part_read}

module _ (piece : List ℕ) where
  -- ---- the mark

  pub code_begins : {i j : ℕ} → Takes piece code_point_of i j → Takes piece (lit "0c") i (i + 2) × (i + 2 < length piece)
  code_begins t = let s = some_base code_of_base t in go s.0 s.1
    where
      go : (b : Base) {i j : ℕ} → Takes piece (code_of_base b) i j → Takes piece (lit "0c") i (i + 2) × (i + 2 < length piece)
      go b (both u d) = (begins piece b u, omega (arith, mark_long piece b u, (first_digit d).0))

  pub code_within : {i j : ℕ} (b : Base) {s : ℕ} → Marked piece i b s → Takes piece code_point_of i j → (s ≤ j) × (j ≤ length piece)
  code_within {i} {j} b {s} m t = let x = some_base code_of_base t in (go x.0 x.1, inside t (omega (arith, (code_begins t).1)))
    where
      go : (a : Base) → Takes piece (code_of_base a) i j → s ≤ j
      go a (both u d) = omega (arith, (m.only a u (first_digit d)).1, forward d)

  -- ---- its value

  pub code_is : {i j s r : ℕ} (b : Base) → Marked piece i b s → (s ≤ j) × (j ≤ length piece) → r ≡ foldl (limited (radix b)) 0 (take (j - s) (drop s piece)) → CodeIs piece i j r
  code_is {i} {j} {s} {r} b m h e = record { is = go }
    where
      go : (v : ℕ) → CodeOf piece i j v → r ≡ min limit v
      go v c =
          let o = m.only c.base c.before (first_digit c.all_digits) in
          e
          ∙ limited_value (radix b) 0 (take (j - s) (drop s piece))
          ∙ ap (λ (l : List ℕ). min limit (value (radix b) l)) (part_read piece s (j - s) (omega (arith, h)))
          ∙ ap (λ (y : ℕ). min limit (number_at piece b y j)) (sym o.1)
          ∙ ap (λ (x : Base). min limit (number_at piece x c.start j)) (sym o.0)
          ∙ ap (min limit) (sym c.value_is)
