-- The tokens and nodes of a text at the places that stand for theirs in the text laid out anew: the same values. Assumes nothing.
use mathlib.Core.Path.{◌≡◌, refl, sym}
use mathlib.Core.Bool.{true}
use mathlib.Core.List.{List, []}
use Prim.Native.Nat.{ℕ}
use lib.IntN.{ℤ}
use Rattle.rules.specs.Every.{Every, none, also}
use Rattle.rules.proofs.Every.{every_map}
use Rattle.lexicon.specs.declared.Kind.{Kind}
use Rattle.lexicon.specs.Values.{IntegerOf, BitsOf, BlobOf, TextOf}
use Rattle.lexicon.specs.Token.{Is}
use Rattle.grammar.specs.Tokens.{Tok, class_kind}
use Rattle.grammar.specs.Tree.{Value}
use Rattle.grammar.specs.Yield.{yield_value}
use Rattle.grammar.specs.Nodes.{Node, table}
use Rattle.grammar.specs.Leaves.{is_literal_of}
use Rattle.grammar.proofs.Nodes.{TokenOf, table_leaves}
use Rattle.reading.specs.Tokens.{Follow, nothing, next}
use Rattle.layout.proofs.Path.{Ahead}
use Rattle.layout.proofs.Carried.{On, on_at}
use Rattle.layout.proofs.Values.{landed, integer_on, bits_on, blob_on, text_on}
use Rattle.layout.proofs.Tokens.{comes_on}
use Rattle.layout.proofs.Derivations.{to, to_is}

-- a value of a node of the text is the other's between the places that g has for the node's ends
pub record ValuesThere (text other : List ℕ) (g : ℕ → ℕ) (n : Node) : Type 0 where
  pub integers : (z : ℤ) → IntegerOf text n.at.first n.at.end z → IntegerOf other (g n.at.first) (g n.at.end) z
  pub texts : (cs : List ℕ) → TextOf text n.at.first n.at.end cs → TextOf other (g n.at.first) (g n.at.end) cs
  pub bits : (bs : List ℕ) → BitsOf text n.at.first n.at.end bs → BitsOf other (g n.at.first) (g n.at.end) bs
  pub blobs : (bs : List ℕ) → BlobOf text n.at.first n.at.end bs → BlobOf other (g n.at.first) (g n.at.end) bs

-- of a literal
abbrev pub IfThere : List ℕ → List ℕ → (ℕ → ℕ) → Node → Type 0
IfThere text other g n = is_literal_of n.kind ≡ true → ValuesThere text other g n

module _ (text other : List ℕ) (s t : ℕ) (way : Ahead text other s t) where
  abbrev g : ℕ → ℕ
  g = to text other s t way

  -- a token of the text whose ends have places in the other
  pub record Stands (u : Tok) : Type 0 where
    pub kind : Kind
    pub class_is : class_kind kind ≡ u.class
    pub is : Is text kind u.at.first u.at.end
    pub first_on : On text other s t u.at.first (g u.at.first)
    pub end_on : On text other s t u.at.end (g u.at.end)

  at_place : {i k : ℕ} → On text other s t i k → On text other s t i (g i)
  at_place o = on_at text other s t refl (sym (to_is text other s t way o)) o

  pub all_stand : {i j k : ℕ} {ts : List Tok} → On text other s t i k → Follow text i ts j → Every Stands ts
  all_stand o nothing = none
  all_stand o (next {t = u} c f) =
      let x = comes_on text other s t o c in
      also (record { kind = u.kind; class_is = refl; is = c.2; first_on = at_place x.first_on; end_on = at_place x.end_on }) (all_stand x.end_on f)

  node_values : (n : Node) → TokenOf Stands n → ValuesThere text other g n
  node_values n x =
      let o = x.holds.first_on in
      let p = x.holds.end_on in
      record {
        integers = λ z v. landed text other s t (λ k l. IntegerOf other k l z) p (integer_on text other s t o v);
        texts = λ cs v. landed text other s t (λ k l. TextOf other k l cs) p (text_on text other s t o v);
        bits = λ bs v. landed text other s t (λ k l. BitsOf other k l bs) p (bits_on text other s t o v);
        blobs = λ bs v. landed text other s t (λ k l. BlobOf other k l bs) p (blob_on text other s t o v);
      }

  pub values_there : (v : Value) → Every Stands (yield_value v []) → Every (IfThere text other g) (table v)
  values_there v x = every_map (λ n f e. node_values n (f e)) (table_leaves Stands v x)
