-- The plain form of an accepted text is accepted at every level with its forms but `<-`, whether that may be read or not, with the same nodes, and its own
-- plain form is itself. Assumes nothing.
use mathlib.Core.Path.{◌≡◌, refl, sym, subst, ap, ◌∙◌}
use mathlib.Core.Bool.{Bool, true, false, false≢true}
use mathlib.Core.List.{List, [], ◌∷◌, ◌++◌, append-nil, append_assoc}
use Prim.Native.Nat.{ℕ, ◌+◌, ◌≤◌}
use native.Mathlib.Omega.{arith}
use lib.ListN.{length, drop, length-append}
use Rattle.rules.proofs.Plain.{second_stands}
use Rattle.lexicon.specs.declared.Token as Token
use Rattle.lexicon.specs.declared.Next.TheVariants as Next
use Rattle.lexicon.specs.Token.{Bad, Comes}
use Rattle.grammar.specs.Tokens.{Tok}
use Rattle.grammar.specs.Tree
use Rattle.grammar.specs.Tree.{Value, Collection, array, set, bag}
use Rattle.grammar.specs.Yield.{yield_value}
use Rattle.grammar.specs.Level.{Level, Feature, arrays, sets, bags, intervals, left_arrows, arrowless, ◌Within◌, has_collection}
use Rattle.grammar.proofs.Retired.{arrowless_within}
use Rattle.reading.specs.declared.Limits.{Limits}
use Rattle.reading.specs.Tokens.{Follow, opened}
use Rattle.reading.specs.Answers.{Accepted}
use Rattle.reading.specs.Derived.{readable, allowed, Derived}
use Rattle.reading.proofs.Derived.{level_keeps, derived_accepted, accepted_derived}
use Rattle.form.specs.Spell.{Spelt, put, bytes_of, spell, plain_form}
use Rattle.form.specs.Reread.{SideBySide, Reread}
use Rattle.form.specs.Spellable.{classes}
use Rattle.form.proofs.Amid.{all_between}
use Rattle.form.proofs.Spelts.{own, toks, sound_all}
use Rattle.form.proofs.Neighbours.{Lones, none, some, standing, after_nothing}
use Rattle.form.proofs.Spelled.{spelled_neighbours}
use Rattle.form.proofs.Reshape.{blank}
use Rattle.form.proofs.Normal.{norm}
use Rattle.form.proofs.Classes.{tok_classes, plain_tree}
use Rattle.form.proofs.Blank.{same_table}
use Rattle.form.proofs.Deep.{Shallow, shallow_opened, opened_shallow, spelled_shallow}
use Rattle.form.proofs.Neat.{Neat, value_neat, value_kept, respell, value_again}
use Rattle.form.proofs.Alone.{Pieces, derived_pieces, spelled_lones, spelled_reads, spelled_ends}
use Rattle.form.proofs.Plain.{plain_front, plain_formed}

-- ---- the tokens of what is written are spelled as it is

module _ (text : List ℕ) where
  placed_again : (ws : List Spelt) → Lones ws → (p : ℕ) → drop p text ≡ bytes_of ws ++ [] → respell text (toks p ws) ≡ ws
  placed_again [] none p e = refl
  placed_again (w ∷ ws) (some o os) p e =
      let h = e ∙ append_assoc w.bytes (bytes_of ws) [] in
      let x = ap (own w.class) (all_between text w.bytes (bytes_of ws ++ []) p h) ∙ o.stays in
      let y = placed_again ws os (p + length w.bytes) (second_stands text w.bytes (bytes_of ws) p [] e) in
      ap (λ (b : List ℕ). put w.class b (respell text (toks (p + length w.bytes) ws))) x ∙ ap (λ (r : List Spelt). w ∷ r) y

-- ---- and stand side by side

toks_side : (p : ℕ) (ws : List Spelt) (q : ℕ) → p + length (bytes_of ws) ≡ q → SideBySide p (toks p ws) q
toks_side p [] q e = omega (arith, e)
toks_side p (w ∷ ws) q e = (refl, toks_side (p + length w.bytes) ws q (omega (arith, e, length-append w.bytes (bytes_of ws))))

-- ---- the plain form

-- forms other than `<-` may be read in any case
readable_too : (b : Bool) (l m : Level) → arrowless l Within m → arrowless l Within readable b m
readable_too true l m w-in = w-in
readable_too false l m w-in = record { has_too = too }
  where
    too : (f : Feature) → arrowless l f ≡ true → arrowless m f ≡ true
    too arrays e = w-in.has_too arrays e
    too sets e = w-in.has_too sets e
    too bags e = w-in.has_too bags e
    too intervals e = w-in.has_too intervals e
    too left_arrows e = absurd (false≢true e)

-- a text with a derivation at the level l, and its plain form read at m, which has the forms of l, by limits of at least its depth; neither need have `<-`
module _ (limits other : Limits) (l m : Level) (text : List ℕ) (v : Value) (d : Derived limits l text v) (depth : limits.depth ≤ other.depth)
    (w-in : arrowless l Within allowed other m) where
  ps : Pieces text (yield_value v [])
  ps = derived_pieces limits l text v d

  abbrev ws : List Spelt
  ws = spell text v []

  abbrev P : List ℕ
  P = plain_form text v

  abbrev w : Value
  w = (plain_tree text v).0

  row_is : toks 0 ws ≡ yield_value w []
  row_is = (plain_tree text v).1

  tree_is : blank w ≡ blank (Tree.plain (norm v))
  tree_is = (plain_tree text v).2

  stands : drop 0 P ≡ bytes_of ws ++ []
  stands = sym (append-nil (bytes_of ws))

  lones : Lones ws
  lones = spelled_lones text v ps

  collections : (h : Collection) → has_collection l h ≡ true → has_collection (allowed other m) h ≡ true
  collections array e = w-in.has_too arrays e
  collections set e = w-in.has_too sets e
  collections bag e = w-in.has_too bags e

  ranges : l intervals ≡ true → allowed other m intervals ≡ true
  ranges e = w-in.has_too intervals e

  neat : Neat (allowed other m) (blank w)
  neat = subst (Neat (allowed other m)) (sym tree_is) (value_neat (allowed other m) l collections ranges v (level_keeps limits l v d.of_level))

  sound : {before : List Tok} {p : ℕ} {t : Token.Token} → Follow P 0 before p → Comes P p (Next.Token t) → Bad P t.kind t.first t.end → ⊥
  sound f c b = sound_all P (standing [] ws lones (spelled_neighbours text v) (λ x i o. after_nothing o.kind)) refl f c b

  shallow : (before behind : List Tok) → before ++ behind ≡ yield_value w [] → opened before ≤ other.depth
  shallow before behind e =
      let a = opened_shallow limits.depth [] (yield_value v []) d.shallow in
      let b = spelled_shallow limits.depth text v a in
      let c = shallow_opened limits.depth 0 before behind (subst (Shallow limits.depth 0) (sym (tok_classes 0 ws) ∙ ap classes (row_is ∙ sym e)) b) in
      omega (arith, c, depth)

  -- the plain form has the derivation w
  plain_derived : Derived other m P w
  plain_derived =
      record {
        of_level = value_kept (allowed other m) w neat;
        start = 0;
        front = plain_front text v ps;
        end = length P;
        row = subst (λ (r : List Tok). Follow P 0 r (length P)) row_is (spelled_reads text v ps);
        at_end = spelled_ends text v;
        sound = sound;
        shallow = shallow;
      }

  same_spelling : spell P w [] ≡ ws
  same_spelling = value_again (allowed other m) P w neat [] [] refl ∙ ap (respell P) (sym row_is) ∙ placed_again P ws lones 0 stands

  plain_again : plain_form P w ≡ P
  plain_again = ap bytes_of same_spelling

  no_space : SideBySide 0 (yield_value w []) (length P)
  no_space = subst (λ (r : List Tok). SideBySide 0 r (length P)) row_is (toks_side 0 ws (length P) (omega arith))

  derived_reread : Reread other text m v
  derived_reread =
      record {
        formed = plain_formed text v ps;
        tree = w;
        front = plain_front text v ps;
        no_space = no_space;
        accepted = derived_accepted other P plain_derived;
        same_nodes = same_table v w tree_is;
        again = plain_again;
      }

module _ (limits : Limits) (l : Level) (text : List ℕ) (v : Value) (a : Accepted limits text l v) where
  -- by limits that allow the same depth, and at a level with the same forms, the arrow aside
  pub reread_at : (other : Limits) → limits.depth ≤ other.depth → (m : Level) → arrowless l Within m → Reread other text m v
  reread_at other depth m w-in =
      derived_reread limits other l m text v (accepted_derived limits text a) depth (readable_too other.arrow l m w-in)

  -- by the same limits and at the same level
  pub reread : Reread limits text l v
  reread = reread_at limits (omega arith) l (arrowless_within l)
