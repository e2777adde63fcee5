-- A token of a text laid out anew is spelled alike: with the same bytes, but for dividing space and `_`. Assumes nothing.
use mathlib.Core.Path.{◌≡◌, refl, sym, subst, ap, ◌∙◌}
use mathlib.Core.Bool.{true, cond}
use mathlib.Core.List.{List, [], ◌∷◌, ◌++◌}
use Prim.Native.Nat.{ℕ, ◌≤◌}
use native.Mathlib.Omega.{arith}
use lib.ListN.{length, get_or}
use Rattle.rules.specs.Class.{In}
use Rattle.rules.specs.Rule.{Rule, row, Takes}
use Rattle.rules.specs.Plain.{between}
use Rattle.rules.proofs.Classes.{apart, apart_span, includes, in_some}
use Rattle.rules.proofs.Bounds.{all_of, all_of_lem}
use Rattle.rules.proofs.Plain.{none_between, one_between, joined_between, plain, takes_matches, row_matches}
use Rattle.rules.proofs.Windows.{takes_moves}
use Rattle.lexicon.specs.declared.Form.TheVariants.{Quoted, Word, HeadWord, CodePoint}
use Rattle.lexicon.specs.declared.Sign.{Sign}
use Rattle.lexicon.specs.declared.Sign.TheVariants.{RoundOpen, RoundClose, CurlyOpen, CurlyClose, SquareOpen, SquareClose, Comma, ArrowRight, ArrowLeft, Dots, Star}
use Rattle.lexicon.specs.declared.Kind.{Kind}
use Rattle.lexicon.specs.declared.Kind.TheVariants.{Ignorance, Boolean, Integer, Fraction, Bits, Blob, Text, Later, Symbol, Colon, TwoColons}
use Rattle.lexicon.specs.Literals.{word, code_point_of}
use Rattle.lexicon.specs.Token.{Told}
use Rattle.lexicon.proofs.Unique.{token_forward}
use Rattle.lexicon.proofs.Pieces.{token_within}
use Rattle.grammar.specs.Tokens.{Class, Tok, class_sign, class_kind}
use Rattle.grammar.proofs.Moved.{move_span}
use Rattle.form.specs.Spell.{part}
use Rattle.form.specs.Bare.{bare_from, bare, kept, outside}
use Rattle.form.proofs.Respelled.{SpeltAlike, MovedAlike}
use Rattle.form.proofs.Pieces.{row_self}
use Rattle.form.proofs.Strip.{no_byte_lem, sp_gone, quotes_stay}
use Rattle.layout.specs.Relaid.{ordinary}
use Rattle.layout.proofs.Path.{Step, same, quoted, gap, Path, here, step, Ahead, path_forward, step_grows, rest_path}
use Rattle.layout.proofs.Carried.{On, Copied, copied, run_on, one_on}
use Rattle.layout.proofs.Derivations.{to}
use Rattle.layout.proofs.Stands.{Stands}

-- an ordinary byte is kept or not, whatever stands behind it
ordinary_bare : (b : ℕ) (x y : List ℕ) → In ordinary b → bare x ≡ bare y → bare (b ∷ x) ≡ bare (b ∷ y)
unfolding bare_from apart apart_span
ordinary_bare b x y i e =
    rw (no_byte_lem ordinary 0x22 b refl i, no_byte_lem ordinary 0x60 b refl i) (ap (λ (l : List ℕ). cond (kept outside b) (b ∷ l) l) e)

module _ (text other : List ℕ) where
  -- between places that stand for each other stands the same, made bare
  pub bare_same : {i k j l : ℕ} → Path text other i k j l → bare (between text i j) ≡ bare (between other k l)
  bare_same (here {i} {k} {j} {l} e f) = ap bare (none_between text i j e ∙ sym (none_between other k l f))
  bare_same {j = j} {l = l} (step {i} {k} {m} {n} x r) =
      let a = step_grows x in let b = path_forward r in
      ap bare (sym (joined_between text i m j (omega (arith, a.0)) b.0))
      ∙ first (between text m j) (between other n l) x (bare_same r)
      ∙ ap bare (joined_between other k n l (omega (arith, a.1)) b.1)
    where
      first : {i k m n : ℕ} (u v : List ℕ) → Step text other i k m n → bare u ≡ bare v → bare (between text i m ++ u) ≡ bare (between other k n ++ v)
      first u v (same {i} {k} a b e) f =
          ap (λ (z : List ℕ). bare (z ++ u)) (one_between text i a.0) ∙ ordinary_bare (get_or text i 0) u v a.1 f
          ∙ ap (λ (z : List ℕ). bare (z ++ v)) (ap (λ (z : ℕ). z ∷ []) e ∙ sym (one_between other k b))
      first {i} {k} {m} {n} u v (quoted t w e) f =
          quotes_stay u (plain text t) ∙ ap (λ (z : List ℕ). between text i m ++ z) f ∙ ap (λ (z : List ℕ). z ++ bare v) e ∙ sym (quotes_stay v (plain other w))
      first u v (gap t w) f = sp_gone u (plain text t.takes) ∙ f ∙ sym (sp_gone v (plain other w.takes))

  -- bytes that are copied are the same
  pub copied_bytes : (s t : ℕ) {i j k : ℕ} → j ≤ length text → (c : Copied text other s t i j k) → between text i j ≡ between other k c.dest
  copied_bytes s t {i} {j} {k} h c =
      let bs = between text i j in
      sym (row_matches bs (plain other (copied text other s t c (λ (l : List ℕ). Takes l (row bs)) (takes_moves (row bs))
      ((takes_matches text (row bs) i j c.ahead h).1 (row_self bs)))))

-- ---- a token of any kind

sign_alike : (x : Sign) (b c : List ℕ) → SpeltAlike (class_sign x) b c
sign_alike RoundOpen b c = tt
sign_alike RoundClose b c = tt
sign_alike CurlyOpen b c = tt
sign_alike CurlyClose b c = tt
sign_alike SquareOpen b c = tt
sign_alike SquareClose b c = tt
sign_alike Comma b c = tt
sign_alike ArrowRight b c = tt
sign_alike ArrowLeft b c = tt
sign_alike Dots b c = tt
sign_alike (Star low high) b c = tt

module _ (text other : List ℕ) (s t : ℕ) {i j k l : ℕ} (o : On text other s t i k) (p : On text other s t j l) (ahead : i ≤ j) (inside : j ≤ length text) where
  bared : bare (between text i j) ≡ bare (between other k l)
  bared = bare_same text other (rest_path o.back p.back ahead)

  same_bytes : (r : Rule) → all_of ordinary r ≡ true → Takes text r i j → between text i j ≡ between other k l
  same_bytes r e u =
      let c = run_on text other s t o (all_of_lem ordinary u e) in
      copied_bytes text other s t inside c ∙ ap (between other k) (one_on c.on p)

  told_alike : (kind : Kind) → Told text kind i j → SpeltAlike (class_kind kind) (between text i j) (between other k l)
  unfolding includes in_some
  told_alike Ignorance h = bared
  told_alike (Boolean b) h = bared
  told_alike (Integer signed) h = bared
  told_alike Fraction h = bared
  told_alike Bits h = bared
  told_alike Blob h = bared
  told_alike (Text Quoted) h = bared
  told_alike (Text Word) h = same_bytes word refl h.0.takes
  told_alike (Text (HeadWord w)) h = same_bytes word refl h.0.takes
  told_alike (Text CodePoint) h = same_bytes code_point_of refl h.takes
  told_alike Later h = tt
  told_alike (Symbol x) h = sign_alike x (between text i j) (between other k l)
  told_alike Colon h = tt
  told_alike TwoColons h = tt

module _ (text other : List ℕ) (s t : ℕ) (way : Ahead text other s t) where
  abbrev g : ℕ → ℕ
  g = to text other s t way

  pub stand_alike : (u : Tok) → Stands text other s t way u → MovedAlike text other g u
  stand_alike u x =
      record {
        alike = subst (λ (c : Class). SpeltAlike c (part text u.at) (part other (move_span g u.at))) x.class_is
            (told_alike text other s t x.first_on x.end_on (omega (arith, token_forward text x.is)) (token_within text x.kind x.is) x.kind x.is.told);
      }
