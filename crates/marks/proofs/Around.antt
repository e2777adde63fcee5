-- What stands around children by number is what stands around them by kind and role. Assumes nothing.
use mathlib.Core.Path.{◌≡◌, refl, sym, ap, ◌∙◌}
use mathlib.Core.Bool.{Bool, true, false, cond}
use mathlib.Core.List.{[]}
use Prim.Native.Nat.{ℕ, ◌≤◌}
use native.Mathlib.Omega.{arith}
use lib.Dec.{eqb}
use Rattle.rules.specs.Class.{codes}
use Rattle.rules.proofs.Choices.{chosen, passed_by}
use Rattle.grammar.specs.Nodes
use Rattle.grammar.specs.Nodes.{NodeKind, Role, kind_number_of, role_number}
use Rattle.grammar.proofs.Branches.{Branch, Branches, none, more}
use Rattle.form.proofs.Walk.{opening, closing, lead, tail, role_of, one_attribute}
use Rattle.marks.specs.declared.Attributes.{Attributes}
use Rattle.marks.specs.ByNumber.{opening_by, closing_by, lead_by, member, counted_by, last_comma_of, tail_by}

-- ---- what opens and closes

pub opens : (k : NodeKind) → kind_number_of Nodes.a_pair ≤ kind_number_of k → opening_by (kind_number_of k) ≡ opening k
opens Nodes.an_ignorance h = absurd (omega (arith, h))
opens Nodes.a_boolean h = absurd (omega (arith, h))
opens Nodes.an_integer h = absurd (omega (arith, h))
opens Nodes.a_fraction h = absurd (omega (arith, h))
opens Nodes.a_bits h = absurd (omega (arith, h))
opens Nodes.a_blob h = absurd (omega (arith, h))
opens Nodes.a_text h = absurd (omega (arith, h))
opens Nodes.a_nesting h = absurd (omega (arith, h))
opens Nodes.a_pair h = refl
opens Nodes.a_tuple h = refl
opens Nodes.a_lot h = refl
opens Nodes.an_array h = refl
opens Nodes.a_set h = refl
opens Nodes.a_bag h = refl
opens Nodes.an_interval h = refl

pub closes : (k : NodeKind) → kind_number_of Nodes.a_pair ≤ kind_number_of k → closing_by (kind_number_of k) ≡ closing k
closes Nodes.an_ignorance h = absurd (omega (arith, h))
closes Nodes.a_boolean h = absurd (omega (arith, h))
closes Nodes.an_integer h = absurd (omega (arith, h))
closes Nodes.a_fraction h = absurd (omega (arith, h))
closes Nodes.a_bits h = absurd (omega (arith, h))
closes Nodes.a_blob h = absurd (omega (arith, h))
closes Nodes.a_text h = absurd (omega (arith, h))
closes Nodes.a_nesting h = absurd (omega (arith, h))
closes Nodes.a_pair h = refl
closes Nodes.a_tuple h = refl
closes Nodes.a_lot h = refl
closes Nodes.an_array h = refl
closes Nodes.a_set h = refl
closes Nodes.a_bag h = refl
closes Nodes.an_interval h = refl

-- ---- in front of a child

pub leads : (d before : ℕ) (r : Role) → lead_by d before (role_number r) ≡ lead d before r
leads d before Nodes.root = refl
leads d before Nodes.this = refl
leads d before Nodes.that_after = refl
leads d before Nodes.that_before = refl
leads d before Nodes.name = refl
leads d before Nodes.value = refl
leads d before Nodes.count = refl
leads d before Nodes.low = refl
leads d before Nodes.high = refl
leads d before Nodes.single = refl

-- ---- behind the last child

-- whether children, behind those that are counted, make one attribute
abbrev pub one_behind : Attributes → Branches → Bool
one_behind Attributes.No bs = one_attribute bs
one_behind Attributes.Name none = true
one_behind Attributes.Name (more a none) = true
one_behind Attributes.Name (more a (more b bs)) = false
one_behind Attributes.One none = true
one_behind Attributes.One (more a bs) = false
one_behind Attributes.More bs = false

-- one child is counted
pub counts : (done : Attributes) (a : Branch) (bs : Branches) → (role_number (role_of a) ≡ role_number Nodes.that_before → ⊥) →
    one_behind done (more a bs) ≡ one_behind (counted_by done (role_number (role_of a))) bs
counts done a bs n =
    by done bs ∙ ap (λ (x : Attributes). one_behind x bs) (sym (passed_by (role_number (role_of a)) 3 Attributes.More (member done (role_number (role_of a))) n))
  where
    -- the first child: o is whether it is a name
    named : (o : Bool) (b : Branch) → o ≡ one_behind (cond o Attributes.Name Attributes.One) (more b none)
    named true b = refl
    named false b = refl

    alone : (o : Bool) → true ≡ one_behind (cond o Attributes.Name Attributes.One) none
    alone true = refl
    alone false = refl

    many : (o : Bool) (b c : Branch) (bs : Branches) → false ≡ one_behind (cond o Attributes.Name Attributes.One) (more b (more c bs))
    many true b c bs = refl
    many false b c bs = refl

    by : (done : Attributes) (bs : Branches) → one_behind done (more a bs) ≡ one_behind (member done (role_number (role_of a))) bs
    by Attributes.No none = alone (eqb (role_number (role_of a)) 4)
    by Attributes.No (more b none) = named (eqb (role_number (role_of a)) 4) b
    by Attributes.No (more b (more c bs)) = many (eqb (role_number (role_of a)) 4) b c bs
    by Attributes.Name none = refl
    by Attributes.Name (more b bs) = refl
    by Attributes.One bs = refl
    by Attributes.More bs = refl

-- a that and its this are
pub counts_two : (done : Attributes) (a b : Branch) (bs : Branches) → role_number (role_of a) ≡ role_number Nodes.that_before →
    one_behind done (more a (more b bs)) ≡ one_behind (counted_by done (role_number (role_of a))) bs
counts_two done a b bs e =
    by done bs ∙ ap (λ (x : Attributes). one_behind x bs) (sym (chosen (role_number (role_of a)) 3 Attributes.More (member done (role_number (role_of a))) e))
  where
    by : (done : Attributes) (bs : Branches) → one_behind done (more a (more b bs)) ≡ false
    by Attributes.No none = ap (λ (n : ℕ). eqb n (role_number Nodes.name)) e
    by Attributes.No (more c bs) = refl
    by Attributes.Name bs = refl
    by Attributes.One bs = refl
    by Attributes.More bs = refl

-- all are
pub tails : (k : NodeKind) (d : ℕ) (done : Attributes) (cs : Branches) → one_attribute cs ≡ one_behind done none → tail_by (kind_number_of k) d done ≡ tail k d cs
tails k d done cs e = by k
  where
    comma_is : (done : Attributes) → last_comma_of done ≡ cond (one_behind done none) (codes ",") []
    comma_is Attributes.No = refl
    comma_is Attributes.Name = refl
    comma_is Attributes.One = refl
    comma_is Attributes.More = refl

    by : (k : NodeKind) → tail_by (kind_number_of k) d done ≡ tail k d cs
    by Nodes.an_ignorance = refl
    by Nodes.a_boolean = refl
    by Nodes.an_integer = refl
    by Nodes.a_fraction = refl
    by Nodes.a_bits = refl
    by Nodes.a_blob = refl
    by Nodes.a_text = refl
    by Nodes.a_nesting = refl
    by Nodes.a_pair = refl
    by Nodes.a_tuple = comma_is done ∙ sym (ap (λ (o : Bool). cond o (codes ",") []) e)
    by Nodes.a_lot = refl
    by Nodes.an_array = refl
    by Nodes.a_set = refl
    by Nodes.a_bag = refl
    by Nodes.an_interval = refl
