-- The nodes of the members, with one part more: what the effects of the moves are put together from. Assumes nothing.
use mathlib.Core.Path.{◌≡◌, refl, sym, ap, ◌∙◌}
use mathlib.Core.List.{List, [], ◌∷◌, ◌++◌, append_assoc}
use mathlib.Core.Option.{Option, none, some}
use Prim.Native.Nat.{ℕ, ◌+◌}
use native.Mathlib.Omega.{arith}
use lib.ListN.{length, length-append}
use Rattle.grammar.specs.Tokens.{Span}
use Rattle.grammar.specs.Tree
use Rattle.grammar.specs.Tree.{PlainName, Arrow, Joiner, Style, Value, Plain, Item}
use Rattle.grammar.specs.Nodes as Nodes
use Rattle.grammar.specs.Nodes.{Node, both, nodes, nodes_plain, nodes_plain_name, nodes_item, nodes_row, nodes_listing, nodes_attributes}
use Rattle.grammar.proofs.Frames.{Lead, lead_comma, lead_row, Front, start, led, row, next_attribute, last_attribute, next_item, last_item, no_further, plain_name_of}
use Rattle.grammar.proofs.NodeLaws.{relabel, roled}
use Rattle.moves.proofs.Model as Model
use Rattle.moves.specs.Means.{role_of, pointing, joining, fronted, leading, then}

-- behind no node
start_at : (i : ℕ) → i + 1 ≡ i + 1 + 0
start_at i = omega arith

-- ---- an item behind those read before

pub last_listed : {s : Style} (f : Front s) (t : Item s) (i : ℕ) → nodes_listing (last_item f t) i (i + 1) ≡ then (fronted f i) i (nodes_item t i)
last_listed start t i = ap (nodes_item t i) (start_at i)
last_listed (led b) t i = ap (nodes_item t i) (start_at i)
last_listed (row r) t i = refl

pub next_listed : {s : Style} (f : Front s) (t : Item s) (c : Span) (i : ℕ) → nodes_row (next_item f t c) i (i + 1) ≡ then (fronted f i) i (nodes_item t i)
next_listed start t c i = ap (nodes_item t i) (start_at i)
next_listed (led b) t c i = ap (nodes_item t i) (start_at i)
next_listed (row r) t c i = refl

pub none_listed : {s : Style} (f : Front s) (i : ℕ) → nodes_listing (no_further f) i (i + 1) ≡ fronted f i
none_listed start i = refl
none_listed (led b) i = refl
none_listed (row r) i = refl

pub last_attribute_lem : (f : Lead) (t : Item Tree.attribute) (i : ℕ) → nodes_attributes (last_attribute f t) i (i + 1) ≡ then (leading f i) i (nodes_item t i)
last_attribute_lem (lead_comma b) t i = ap (nodes_item t i) (start_at i)
last_attribute_lem (lead_row r) t i = refl

pub next_attribute_lem : (f : Lead) (t : Item Tree.attribute) (c : Span) (i : ℕ) → nodes_row (next_attribute f t c) i (i + 1) ≡ then (leading f i) i (nodes_item t i)
next_attribute_lem (lead_comma b) t c i = ap (nodes_item t i) (start_at i)
next_attribute_lem (lead_row r) t c i = refl

-- ---- a value whose role is told

pub told_behind : (ns : List Node) (v : Value) (r : Nodes.Role) (i : ℕ) → ns ++ roled r (nodes v i Nodes.root (i + 1 + length ns)) ≡ then ns i (nodes v i r)
told_behind ns v r i = ap (λ (x : List Node). ns ++ x) (relabel v i Nodes.root r (i + 1 + length ns))

-- the first
pub told_first : (v : Value) (r : Nodes.Role) (i : ℕ) → roled r (nodes v i Nodes.root (i + 1 + 0)) ≡ nodes v i r (i + 1)
told_first v r i = relabel v i Nodes.root r (i + 1 + 0) ∙ ap (nodes v i r) (sym (start_at i))

-- the second of an item
pub told_second : (ns : List Node) (f : ℕ → List Node) (v : Value) (r : Nodes.Role) (i : ℕ) →
    then ns i f ++ roled r (nodes v i Nodes.root (i + 1 + length (then ns i f))) ≡ then ns i (both f (nodes v i r))
told_second ns f v r i =
    let n : ℕ = i + 1 + length ns in
    told_behind (then ns i f) v r i
    ∙ append_assoc ns (f n) _
    ∙ ap (λ (k : ℕ). ns ++ (f n ++ nodes v i r k)) (ap (λ (k : ℕ). i + 1 + k) (length-append ns (f n)) ∙ omega arith)

-- ---- a name's node

abbrev pub NamedBy : Plain → Option PlainName → Type 0
NamedBy p none = Unit
NamedBy p (some n) = (i j : ℕ) (r s : Nodes.Role) → roled s (nodes_plain p i r j) ≡ nodes_plain_name n i s

pub named_by : (p : Plain) → NamedBy p (plain_name_of p)
named_by (Tree.literal a t) = tt
named_by (Tree.text w t) = λ i j r s. refl
named_by (Tree.nesting n) = λ i j r s. refl
named_by (Tree.group o v c) = tt
named_by (Tree.pair o p k v c) = tt
named_by (Tree.arrowed o v a k w c) = tt
named_by (Tree.tuple o i c) = tt
named_by (Tree.lot o i c) = tt
named_by (Tree.counted o h t k b i e c) = tt
named_by (Tree.interval o b c) = tt

pub roled_length : (r : Nodes.Role) (ns : List Node) → length (roled r ns) ≡ length ns
roled_length r [] = refl
roled_length r (n ∷ ns) = refl

-- a first value that turns out a name, and the value behind it
pub told_both : (ns ms : List Node) (v : Value) (i : ℕ) → roled Nodes.name ns ≡ ms →
    roled Nodes.name ns ++ roled Nodes.value (nodes v i Nodes.root (i + 1 + length ns)) ≡ then ms i (nodes v i Nodes.value)
told_both ns ms v i e =
    ap (λ (k : ℕ). roled Nodes.name ns ++ roled Nodes.value (nodes v i Nodes.root (i + 1 + k))) (sym (roled_length Nodes.name ns))
    ∙ ap (λ (x : List Node). x ++ roled Nodes.value (nodes v i Nodes.root (i + 1 + length x))) e
    ∙ told_behind ms v Nodes.value i

-- ---- the roles of two values that are joined

pub left_role : (a : Arrow) → role_of (Model.left_role_of (pointing a)) ≡ Nodes.left_role_of a
left_role Tree.rightward = refl
left_role Tree.leftward = refl

pub right_role : (a : Arrow) → role_of (Model.right_role_of (pointing a)) ≡ Nodes.right_role_of a
right_role Tree.rightward = refl
right_role Tree.leftward = refl

pub joined_role : (j : Joiner) → role_of (Model.right_role_of (joining j)) ≡ Nodes.joiner_right j
joined_role Tree.colon = refl
joined_role (Tree.arrow a) = right_role a
