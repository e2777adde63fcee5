-- The plain form of nodes under nodes, as a walk over the node table finds it: by kinds, roles and details, with no derivation. That the
-- nodes of a derivation have the bytes of its plain form is proofs/Walked.antt. Assumes nothing.
use mathlib.Core.Path.{◌≡◌}
use mathlib.Core.Bool.{Bool, true, false, cond}
use mathlib.Core.List.{List, [], ◌++◌}
use Prim.Native.Nat.{ℕ, ◌≤◌}
use lib.Dec.{eqb}
use lib.ListN.{length}
use Rattle.rules.specs.Class.{codes}
use Rattle.lexicon.specs.declared.Head.{Head}
use Rattle.lexicon.specs.declared.Form.{Form}
use Rattle.lexicon.specs.declared.Kind.TheVariants as Kind
use Rattle.lexicon.specs.declared.Token.{Token}
use Rattle.lexicon.specs.declared.Next.TheVariants as Next
use Rattle.lexicon.specs.Token.{Comes}
use Rattle.grammar.specs.Tokens.{Span}
use Rattle.grammar.specs.Nodes
use Rattle.grammar.specs.Nodes.{NodeKind, Role, kind_number_of, role_number}
use Rattle.form.specs.Bare.{bare}
use Rattle.form.specs.Spell.{quoted_bytes, part}
use Rattle.grammar.proofs.Branches.{Branch, branch, Branches, none, more}

-- ---- brackets

-- what opens a bracket, by its kind
abbrev pub opening : NodeKind → List ℕ
opening Nodes.an_ignorance = []
opening Nodes.a_boolean = []
opening Nodes.an_integer = []
opening Nodes.a_fraction = []
opening Nodes.a_bits = []
opening Nodes.a_blob = []
opening Nodes.a_text = []
opening Nodes.a_nesting = []
opening Nodes.a_pair = codes "("
opening Nodes.a_tuple = codes "("
opening Nodes.a_lot = codes "{"
opening Nodes.an_array = codes "(Array:{"
opening Nodes.a_set = codes "(Set:{"
opening Nodes.a_bag = codes "(Bag:{"
opening Nodes.an_interval = codes "["

abbrev pub closing : NodeKind → List ℕ
closing Nodes.an_ignorance = []
closing Nodes.a_boolean = []
closing Nodes.an_integer = []
closing Nodes.a_fraction = []
closing Nodes.a_bits = []
closing Nodes.a_blob = []
closing Nodes.a_text = []
closing Nodes.a_nesting = []
closing Nodes.a_pair = codes ")"
closing Nodes.a_tuple = codes ")"
closing Nodes.a_lot = codes "}"
closing Nodes.an_array = codes "})"
closing Nodes.a_set = codes "})"
closing Nodes.a_bag = codes "})"
closing Nodes.an_interval = codes "]"

-- the sign of an Interval by its detail: none of an empty one and of a single value
abbrev pub sign_bytes : ℕ → List ℕ
sign_bytes d =
    cond (eqb d 2) (codes "<=*<=")
    (cond (eqb d 3) (codes "<=*<")
    (cond (eqb d 4) (codes "<*<=")
    (cond (eqb d 5) (codes "<*<")
    (cond (eqb d 6) (codes "<=*")
    (cond (eqb d 7) (codes "<*")
    (cond (eqb d 8) (codes "*<=")
    (cond (eqb d 9) (codes "*<")
    (cond (eqb d 10) (codes "*")
    (cond (eqb d 11) (codes "..") [])))))))))

-- ---- what stands in front of a child, by its role and that of the child in front of it; the number of no role, 0, where there is none

-- in front of a further member
abbrev pub comma : ℕ → List ℕ
comma before = cond (eqb before 0) [] (codes ",")

abbrev pub lead : (detail before : ℕ) → Role → List ℕ
lead d before Nodes.root = []
lead d before Nodes.this = comma before
lead d before Nodes.that_after = codes ":"
lead d before Nodes.that_before = comma before
lead d before Nodes.name = comma before
lead d before Nodes.value = cond (eqb before (role_number Nodes.name)) (codes ":") (comma before)
lead d before Nodes.count = codes ":"
lead d before Nodes.low = []
lead d before Nodes.high = sign_bytes d
lead d before Nodes.single = []

abbrev pub role_of : Branch → Role
role_of (branch k s r d bs) = r

-- one attribute: a value, or a name and a value
abbrev pub one_attribute : Branches → Bool
one_attribute none = false
one_attribute (more a none) = true
one_attribute (more a (more b none)) = eqb (role_number (role_of a)) (role_number Nodes.name)
one_attribute (more a (more b (more c bs))) = false

-- the sign that stands last: of an Interval without a high bound
abbrev pub last_sign_of : ℕ → List ℕ
last_sign_of d = cond (eqb d 6) (sign_bytes d) (cond (eqb d 7) (sign_bytes d) (cond (eqb d 10) (sign_bytes d) []))

-- what stands behind the last child: the comma of a Tuple's single attribute, and the sign of an Interval that has no high bound
abbrev pub tail : NodeKind → ℕ → Branches → List ℕ
tail Nodes.an_ignorance d bs = []
tail Nodes.a_boolean d bs = []
tail Nodes.an_integer d bs = []
tail Nodes.a_fraction d bs = []
tail Nodes.a_bits d bs = []
tail Nodes.a_blob d bs = []
tail Nodes.a_text d bs = []
tail Nodes.a_nesting d bs = []
tail Nodes.a_pair d bs = []
tail Nodes.a_tuple d bs = cond (one_attribute bs) (codes ",") []
tail Nodes.a_lot d bs = []
tail Nodes.an_array d bs = []
tail Nodes.a_set d bs = []
tail Nodes.a_bag d bs = []
tail Nodes.an_interval d bs = last_sign_of d

module _ (text : List ℕ) where
  -- ---- leaves

  -- a Text, by the form in which it stands in the text
  pub data Spelled : Form → Span → List ℕ → Type 0 where
    as_quoted : {s : Span} → Spelled Form.Quoted s (bare (part text s))
    as_word : {s : Span} → Spelled Form.Word s (part text s)
    as_head : {s : Span} {h : Head} → Spelled (Form.HeadWord h) s (quoted_bytes (part text s))
    as_code : {s : Span} → Spelled Form.CodePoint s (part text s)

  -- a token of a Text or a Nesting
  pub data NameToken (t : Token) : List ℕ → Type 0 where
    colons : t.kind ≡ Kind.TwoColons → NameToken t (codes "::")
    name : {f : Form} {bs : List ℕ} → t.kind ≡ Kind.Text f → Spelled f (record { first = t.first; end = t.end }) bs → NameToken t bs

  -- the tokens from i to the end j: a Text is one, a Nesting two and more. Which word a word is, its token tells
  pub data Named : ℕ → ℕ → List ℕ → Type 0 where
    ended : {j : ℕ} → Named j j []
    further : {i j : ℕ} {t : Token} {bs cs : List ℕ} → Comes text i (Next.Token t) → t.end ≤ j → NameToken t bs → Named t.end j cs → Named i j (bs ++ cs)

  pub data Leaf : NodeKind → ℕ → Span → List ℕ → Type 0 where
    ignorance : {s : Span} {d : ℕ} → Leaf Nodes.an_ignorance d s (bare (part text s))
    boolean : {s : Span} {d : ℕ} → Leaf Nodes.a_boolean d s (bare (part text s))
    integer : {s : Span} {d : ℕ} → Leaf Nodes.an_integer d s (bare (part text s))
    fraction : {s : Span} {d : ℕ} → Leaf Nodes.a_fraction d s (bare (part text s))
    bits : {s : Span} {d : ℕ} → Leaf Nodes.a_bits d s (bare (part text s))
    blob : {s : Span} {d : ℕ} → Leaf Nodes.a_blob d s (bare (part text s))
    wording : {s : Span} {d : ℕ} {bs : List ℕ} → Named s.first s.end bs → Leaf Nodes.a_text d s bs
    nesting : {s : Span} {d : ℕ} {bs : List ℕ} → Named s.first s.end bs → Leaf Nodes.a_nesting d s bs

  -- ---- branches

  mutual
    pub data Walked : Branch → List ℕ → Type 0 where
      leaf : {k : NodeKind} {s : Span} {r : Role} {d : ℕ} {bs : List ℕ} → s.first ≤ s.end → s.end ≤ length text → Leaf k d s bs →
          Walked (branch k s r d none) bs
      bracket : {k : NodeKind} {s : Span} {r : Role} {d : ℕ} {cs : Branches} {bs : List ℕ} → kind_number_of Nodes.a_pair ≤ kind_number_of k →
          Listed d 0 cs bs → Walked (branch k s r d cs) (opening k ++ bs ++ tail k d cs ++ closing k)

    -- children of a bracket with this detail, behind one of the role with this number
    pub data Listed : ℕ → ℕ → Branches → List ℕ → Type 0 where
      no_more : {d before : ℕ} → Listed d before none []
      child : {d before : ℕ} {a : Branch} {bs : Branches} {m ms : List ℕ} → (role_of a ≡ Nodes.that_before → ⊥) →
          Walked a m → Listed d (role_number (role_of a)) bs ms → Listed d before (more a bs) (lead d before (role_of a) ++ m ++ ms)
      -- `b<-a`: the this stands behind, and is written first
      turned : {d before : ℕ} {a b : Branch} {bs : Branches} {m n ms : List ℕ} → role_of a ≡ Nodes.that_before →
          Walked a m → Walked b n → Listed d (role_number (role_of a)) bs ms →
          Listed d before (more a (more b bs)) (lead d before (role_of a) ++ (n ++ codes ":" ++ m) ++ ms)
