-- The nodes without children, as a walk finds them: a token of a derivation that stands in the text, and a Nesting. Assumes nothing.
use mathlib.Core.Path.{◌≡◌, refl, sym, ap, subst, ◌∙◌}
use mathlib.Core.List.{List, [], ◌∷◌, ◌++◌, append_assoc, append-nil}
use Prim.Native.Nat.{ℕ, ◌≤◌}
use native.Mathlib.Omega.{arith}
use lib.ListN.{length}
use Rattle.rules.specs.Class.{codes}
use Rattle.lexicon.specs.declared.Form.{Form}
use Rattle.lexicon.specs.declared.Kind.{Kind}
use Rattle.lexicon.specs.declared.Token.{Token}
use Rattle.lexicon.specs.declared.Next.TheVariants as Next
use Rattle.lexicon.specs.Token.{Comes, Is}
use Rattle.lexicon.proofs.Spaces.{skips_on}
use Rattle.lexicon.proofs.Unique.{token_forward}
use Rattle.lexicon.proofs.Pieces.{token_within}
use Rattle.grammar.specs.Tokens
use Rattle.grammar.specs.Tokens.{Span, Tok, tok, Class, Atom, Wording, atom, text, names, spelled}
use Rattle.grammar.specs.Tree.{Names, one_name, more_names}
use Rattle.grammar.specs.Yield.{yield_names}
use Rattle.grammar.specs.Nodes
use Rattle.grammar.specs.Nodes.{NodeKind, Role, names_start, names_span, atom_kind, spelling_detail}
use Rattle.reading.specs.Tokens.{Follow, next}
use Rattle.reading.proofs.At.{kind_of, class_kind_lem}
use Rattle.reading.proofs.Rows.{comes_forward}
use Rattle.form.specs.Bare.{bare}
use Rattle.form.specs.Spell.{Spelt, put, part, spell_wording, spell_names}
use Rattle.grammar.proofs.Branches.{Branch, end}
use Rattle.form.proofs.Walk
use Rattle.form.proofs.Walk.{Spelled, as_quoted, as_word, as_head, as_code, NameToken, Named, ended, further, colons, Leaf, Walked, leaf}
use Rattle.form.proofs.Puts.{Puts, puts_none, puts_one, puts_both}

-- a Text's detail
abbrev pub wording_detail : Wording → ℕ
wording_detail (spelled w) = spelling_detail w
wording_detail (Tokens.head_word h) = 2

module _ (bytes : List ℕ) where
  -- a branch, and what the tokens of it put in front of what follows
  pub record Said (b : Branch) (f : List Spelt → List Spelt) : Type 0 where
    pub are : List ℕ
    pub walked : Walked bytes b are
    pub puts : Puts f are

  -- ---- a token of the row

  -- it stands from p on, dividing space aside, and the row goes on behind it
  pub record FirstThere (c : Class) (s : Span) (r : List Tok) (p q : ℕ) : Type 0 where
    token : Token
    comes : Comes bytes p (Next.Token token)
    kind_is : token.kind ≡ kind_of c
    span_is : record { first = token.first; end = token.end } ≡ s
    is : Is bytes (kind_of c) s.first s.end
    behind : Follow bytes s.end r q

  pub first_token : (c : Class) (s : Span) (r : List Tok) {p q : ℕ} → Follow bytes p (tok c s ∷ r) q → FirstThere c s r p q
  first_token c s r {p} {q} f = by f refl
    where
      by : {w : Tok} → Follow bytes p (w ∷ r) q → w ≡ tok c s → FirstThere c s r p q
      by (next {t = t} x g) e =
          let kind_is : t.kind ≡ kind_of c = class_kind_lem t.kind (ap (λ (y : Tok). y.class) e) in
          let span_is : record { first = t.first; end = t.end } ≡ s = ap (λ (y : Tok). y.at) e in
          record {
            token = t;
            comes = x;
            kind_is = kind_is;
            span_is = span_is;
            is = subst (λ (y : Span). Is bytes (kind_of c) y.first y.end) span_is (subst (λ (k : Kind). Is bytes k t.first t.end) kind_is x.2);
            behind = subst (λ (y : Span). Follow bytes y.end r q) span_is g;
          }

  -- one node of it
  one : {c : Class} {s : Span} {r : List Tok} {p q : ℕ} {k : NodeKind} {d : ℕ} {role : Role} {are : List ℕ} {f : List Spelt → List Spelt} →
      FirstThere c s r p q → Leaf bytes k d s are → Puts f are → Said (end k s role d) f
  one {c} {s} {are = are} x l y =
      let h = token_forward bytes x.is in
      record { are = are; walked = leaf {s = s} (omega (arith, h)) (token_within bytes (kind_of c) x.is) l; puts = y }

  -- ---- literals

  literal_leaf : (a : Atom) {s : Span} {d : ℕ} → Leaf bytes (atom_kind a) d s (bare (part bytes s))
  literal_leaf Tokens.ignorance = Leaf.ignorance
  literal_leaf (Tokens.boolean b) = Leaf.boolean
  literal_leaf (Tokens.integer b) = Leaf.integer
  literal_leaf Tokens.fraction = Leaf.fraction
  literal_leaf Tokens.bits = Leaf.bits
  literal_leaf Tokens.blob = Leaf.blob

  pub literal_said : (a : Atom) (s : Span) {d : ℕ} {role : Role} {r : List Tok} {p q : ℕ} → FirstThere (atom a) s r p q →
      Said (end (atom_kind a) s role d) (λ ws. put (atom a) (bare (part bytes s)) ws)
  literal_said a s x = one x (literal_leaf a) (puts_one (atom a) (bare (part bytes s)))

  -- ---- Texts

  record Worded (w : Wording) (s : Span) : Type 0 where
    form : Form
    are : List ℕ
    kind_is : kind_of (text w) ≡ Kind.Text form
    as_spelled : Spelled bytes form s are
    puts : Puts (λ ws. spell_wording bytes w s ws) are

  worded : (w : Wording) (s : Span) → Worded w s
  worded (spelled Tokens.quoted) s =
      record { form = Form.Quoted; are = _; kind_is = refl; as_spelled = as_quoted; puts = puts_one _ _ }
  worded (spelled Tokens.word) s =
      record { form = Form.Word; are = _; kind_is = refl; as_spelled = as_word; puts = puts_one _ _ }
  worded (spelled Tokens.code_point_of) s =
      record { form = Form.CodePoint; are = _; kind_is = refl; as_spelled = as_code; puts = puts_one _ _ }
  worded (Tokens.head_word h) s =
      record { form = Form.HeadWord h; are = _; kind_is = refl; as_spelled = as_head; puts = puts_one _ _ }

  -- the tokens from p to e go in front of further ones
  record Chain (p e : ℕ) (f : List Spelt → List Spelt) : Type 0 where
    are : List ℕ
    forward : p ≤ e
    within : e ≤ length bytes
    named : (j : ℕ) (cs : List ℕ) → e ≤ j → Named bytes e j cs → Named bytes p j (are ++ cs)
    puts : Puts f are

  one_chain : {c : Class} {s : Span} {r : List Tok} {p q : ℕ} {are : List ℕ} {f : List Spelt → List Spelt} (x : FirstThere c s r p q) →
      NameToken bytes x.token are → Puts f are → Chain p s.end f
  one_chain {c} {s} {p = p} {are = are} x n y =
      let e : x.token.end ≡ s.end = ap (λ (z : Span). z.end) x.span_is in
      let b : x.token.first ≡ s.first = ap (λ (z : Span). z.first) x.span_is in
      record {
        are = are;
        forward = omega (arith, b, comes_forward bytes x.comes, token_forward bytes x.is);
        within = token_within bytes (kind_of c) x.is;
        named = λ j cs h m. further {j = j} x.comes (omega (arith, e, h)) n (subst (λ (k : ℕ). Named bytes k j cs) (sym e) m);
        puts = y;
      }

  both_chain : {p m e : ℕ} {f g : List Spelt → List Spelt} → Chain p m f → Chain m e g → Chain p e (λ ws. f (g ws))
  both_chain {p} x y =
      record {
        are = x.are ++ y.are;
        forward = omega (arith, x.forward, y.forward);
        within = y.within;
        named = λ j cs h m.
            subst (Named bytes p j) (sym (append_assoc x.are y.are cs))
            (x.named j (y.are ++ cs) (omega (arith, h, y.forward)) (y.named j cs h m));
        puts = puts_both x.puts y.puts;
      }

  colons_chain : {s : Span} {r : List Tok} {p q : ℕ} → FirstThere names s r p q → Chain p s.end (λ ws. put names (codes "::") ws)
  colons_chain x = one_chain x (colons x.kind_is) (puts_one names (codes "::"))

  text_chain : (w : Wording) (s : Span) {r : List Tok} {p q : ℕ} → FirstThere (text w) s r p q → Chain p s.end (λ ws. spell_wording bytes w s ws)
  text_chain w s x =
      let y = worded w s in
      one_chain x (Walk.name (x.kind_is ∙ y.kind_is) (subst (λ (z : Span). Spelled bytes y.form z y.are) (sym x.span_is) y.as_spelled)) y.puts

  -- ---- a Text by itself

  -- the space in front is no part of it
  at_first : {c : Class} {s : Span} {r : List Tok} {p q : ℕ} → FirstThere c s r p q → FirstThere c s r s.first q
  at_first x =
      let c = x.comes in
      record {
        token = x.token;
        comes = subst (λ (z : Span). Comes bytes z.first (Next.Token x.token)) x.span_is (skips_on c.0.takes c.0, c.1, c.2, c.3);
        kind_is = x.kind_is;
        span_is = x.span_is;
        is = x.is;
        behind = x.behind;
      }

  pub text_said : (w : Wording) (s : Span) {role : Role} {r : List Tok} {p q : ℕ} → FirstThere (text w) s r p q →
      Said (end Nodes.a_text s role (wording_detail w)) (λ ws. spell_wording bytes w s ws)
  text_said w s x =
      let y = text_chain w s (at_first x) in
      one x (Leaf.wording (subst (Named bytes s.first s.end) (append-nil y.are) (y.named s.end [] (omega arith) ended))) y.puts

  -- ---- Nestings

  abbrev Chained : ℕ → ℕ → ℕ → List Tok → (List Spelt → List Spelt) → Type 0
  Chained p e q r f = Chain p e f × Follow bytes e r q

  name_chain : (s : Span) (w : Wording) (t : Span) (r : List Tok) {p q : ℕ} → Follow bytes p (tok names s ∷ tok (text w) t ∷ r) q →
      Chained p t.end q r (λ ws. put names (codes "::") (spell_wording bytes w t ws))
  name_chain s w t r f =
      let x = first_token names s (tok (text w) t ∷ r) f in
      let y = first_token (text w) t r x.behind in
      (both_chain (colons_chain x) (text_chain w t y), y.behind)

  names_chain : (n : Names) (r : List Tok) {p q : ℕ} → Follow bytes p (yield_names n r) q → Chained p (names_span n).end q r (λ ws. spell_names bytes n ws)
  names_chain (one_name s w t) r f = name_chain s w t r f
  names_chain (more_names n s w t) r f =
      let x = names_chain n (tok names s ∷ tok (text w) t ∷ r) f in
      let y = name_chain s w t r x.1 in
      (both_chain x.0 y.0, y.1)

  -- the space in front is no part of it
  from_first : {w : Tok} {r : List Tok} {p q : ℕ} → Follow bytes p (w ∷ r) q → Follow bytes w.at.first (w ∷ r) q
  from_first (next c f) = next (skips_on c.0.takes c.0, c.1, c.2, c.3) f

  names_from_first : (n : Names) (r : List Tok) {p q : ℕ} → Follow bytes p (yield_names n r) q → Follow bytes (names_start n).first (yield_names n r) q
  names_from_first (one_name s w t) r f = from_first f
  names_from_first (more_names n s w t) r f = names_from_first n (tok names s ∷ tok (text w) t ∷ r) f

  names_first : (n : Names) → (names_span n).first ≡ (names_start n).first
  names_first (one_name s w t) = refl
  names_first (more_names n s w t) = refl

  chain_said : (n : Names) {role : Role} → Chain (names_start n).first (names_span n).end (λ ws. spell_names bytes n ws) →
      Said (end Nodes.a_nesting (names_span n) role 0) (λ ws. spell_names bytes n ws)
  chain_said n x =
      let e = names_first n in
      record {
        are = x.are ++ [];
        walked =
            leaf {s = names_span n} (omega (arith, e, x.forward)) x.within
            (Leaf.nesting (subst (λ (i : ℕ). Named bytes i (names_span n).end (x.are ++ [])) (sym e) (x.named (names_span n).end [] (omega arith) ended)));
        puts = puts_both x.puts puts_none;
      }

  pub nesting_said : (n : Names) (r : List Tok) {role : Role} {p q : ℕ} → Follow bytes p (yield_names n r) q →
      Said (end Nodes.a_nesting (names_span n) role 0) (λ ws. spell_names bytes n ws) × Follow bytes (names_span n).end r q
  nesting_said n r f = let x = names_chain n r (names_from_first n r f) in (chain_said n x.0, x.1)
