-- The tokens of a Nesting, as they are written one by one. Assumes nothing.
use mathlib.Core.Path.{◌≡◌, refl, sym, subst, ◌∙◌}
use mathlib.Core.List.{List, []}
use Prim.Native.Nat.{ℕ, ◌≤◌, ◌<◌}
use native.Mathlib.Omega.{arith}
use lib.ListN.{length}
use Rattle.rules.specs.Class.{codes}
use Rattle.lexicon.specs.declared.Form.{Form}
use Rattle.lexicon.specs.declared.Kind.TheVariants as Kind
use Rattle.lexicon.specs.declared.Token.{Token}
use Rattle.lexicon.specs.declared.Next.{Next}
use Rattle.lexicon.specs.Token.{Comes}
use Rattle.lexicon.proofs.Variants.{text_same}
use Rattle.lexicon.proofs.Determined.{one_answer}
use Rattle.lexicon.proofs.Pieces.{token_bounds}
use Rattle.reading.proofs.Rows.{pick}
use Rattle.buffer.specs.declared.Writer.{Writer}
use Rattle.buffer.specs.Appends.{AppendsPart}
use Rattle.form.proofs.Walk
use Rattle.form.proofs.Walk.{Spelled, NameToken, Named}
use Rattle.leaf.proofs.Rows.{Going, going, going_on, going_same, gone}

module _ (text : List ℕ) where
  -- ---- one token

  pub colons_bytes : {t : Token} → ((f : Form) → t.kind ≡ Kind.Text f → ⊥) → (bs : List ℕ) → NameToken text t bs → codes "::" ≡ bs
  colons_bytes k bs (Walk.colons e) = refl
  colons_bytes k bs (Walk.name {f = f} e x) = absurd (k f e)

  colons_text : {f : Form} → Kind.TwoColons ≡ Kind.Text f → ⊥
  colons_text e = let z : ◌≡◌ {A = ℕ} 0 1 = cc in absurd (omega arith)

  pub name_bytes : {t : Token} {f : Form} → t.kind ≡ Kind.Text f → (bs : List ℕ) → NameToken text t bs →
      Spelled text f (record { first = t.first; end = t.end }) bs
  name_bytes e bs (Walk.colons q) = absurd (colons_text (sym q ∙ e))
  name_bytes {t} e bs (Walk.name q x) =
      subst (λ (g : Form). Spelled text g (record { first = t.first; end = t.end }) bs) (text_same (sym q ∙ e)) x

  -- ---- those that are left

  record Left (i j : ℕ) (u : Writer) (bs : List ℕ) (v : Writer) : Type 0 where
    rest : List ℕ
    going : Going u bs v rest
    named : Named text i j rest

  pub record Naming (first j : ℕ) (u v : Writer) (i : ℕ) : Type 0 where
    left : (bs : List ℕ) → Named text first j bs → Left i j u bs v
    pub same_buffer : v.buffer.ghost_name ≡ u.buffer.ghost_name
    pub same_length : length v.buffer.now ≡ length u.buffer.now

  pub naming : (first j : ℕ) (u : Writer) → Naming first j u u first
  naming first j u =
      record { left = λ bs x. record { rest = bs; going = going u bs; named = x }; same_buffer = refl; same_length = refl }

  pub naming_next : {first j i : ℕ} {u v w : Writer} {t : Token} → Naming first j u v i → i < j → Comes text i (Next.Token t) →
      AppendsPart (NameToken text t) v w → Naming first j u w t.end
  naming_next {j = j} {u = u} {v} {w} {t} g h c x =
      record {
        left = λ bs y. (let l = g.left bs y in go bs l.named h l.going c);
        same_buffer = x.same_buffer ∙ g.same_buffer;
        same_length = x.same_length ∙ g.same_length;
      }
    where
      go : {i : ℕ} {rest : List ℕ} (bs : List ℕ) → Named text i j rest → i < j → Going u bs v rest → Comes text i (Next.Token t) →
          Left t.end j u bs w
      go bs Walk.ended h g c = absurd (omega arith)
      go {i} bs (Walk.further {t = z} {bs = row} {cs = rest} d l y n) h g c =
          let e : z ≡ t = pick text d c in
          record {
            rest = rest;
            going = going_on row g (x.appends row (subst (λ (z : Token). NameToken text z row) e y));
            named = subst (λ (z : Token). Named text z.end j rest) e n;
          }

  pub naming_ends : {first j i : ℕ} {u v : Writer} → Naming first j u v i → j ≤ i → AppendsPart (Named text first j) u v
  naming_ends {j = j} g h =
      record {
        appends = λ bs x. (let l = g.left bs x in gone (going_same (none l.named h) l.going));
        same_buffer = g.same_buffer;
        same_length = g.same_length;
      }
    where
      none : {i : ℕ} {rest : List ℕ} → Named text i j rest → j ≤ i → rest ≡ []
      none Walk.ended h = refl
      none (Walk.further d l x y) h = let b = token_bounds text d in absurd (omega (arith, b.0, b.1, l, h))

  -- no token comes, though the end is not reached: this is no Nesting
  pub naming_stops : {first j i : ℕ} {u v : Writer} (r : Next) → Naming first j u v i → i < j → Comes text i r →
      ((t : Token) → r ≡ Next.Token t → ⊥) → AppendsPart (Named text first j) u v
  naming_stops {j = j} r g h c o =
      record {
        appends = λ bs x. absurd (stuck (g.left bs x).named h c);
        same_buffer = g.same_buffer;
        same_length = g.same_length;
      }
    where
      stuck : {i : ℕ} {rest : List ℕ} → Named text i j rest → i < j → Comes text i r → ⊥
      stuck Walk.ended h c = omega arith
      stuck {i} (Walk.further {t = v} d l x y) h c = o v (one_answer text i r (Next.Token v) c d)
