-- A branch has the role that it is grown with. Assumes nothing.
use mathlib.Core.Path.{◌≡◌, refl}
use Rattle.grammar.specs.Tree
use Rattle.grammar.specs.Tree.{PlainName, text_name, nesting_name, Name, plain_name, bare_name, Measure, Count, Value, Plain}
use Rattle.grammar.specs.Nodes
use Rattle.grammar.specs.Nodes.{Role}
use Rattle.grammar.proofs.Branches.{grow, grow_plain, grow_plain_name, grow_name, grow_count}
use Rattle.form.proofs.Walk.{role_of}

mutual
  pub value_role : (v : Value) (r : Role) → role_of (grow v r) ≡ r
  value_role (Tree.plain p) r = plain_role p r
  value_role (Tree.bare h s) r = refl

  pub plain_role : (p : Plain) (r : Role) → role_of (grow_plain p r) ≡ r
  plain_role (Tree.literal a s) r = refl
  plain_role (Tree.text w s) r = refl
  plain_role (Tree.nesting n) r = refl
  plain_role (Tree.group o v c) r = value_role v r
  plain_role (Tree.pair o p k v c) r = refl
  plain_role (Tree.arrowed o v a k w c) r = refl
  plain_role (Tree.tuple o l c) r = refl
  plain_role (Tree.lot o l c) r = refl
  plain_role (Tree.counted o h s k b l e c) r = refl
  plain_role (Tree.interval o b c) r = refl

pub plain_name_role : (n : PlainName) (r : Role) → role_of (grow_plain_name n r) ≡ r
plain_name_role (text_name w s) r = refl
plain_name_role (nesting_name n) r = refl

pub name_role : (n : Name) (r : Role) → role_of (grow_name n r) ≡ r
name_role (plain_name n) r = plain_name_role n r
name_role (bare_name h s) r = refl

pub count_role : {u : Measure} (c : Count u) → role_of (grow_count c) ≡ Nodes.count
count_role (Tree.number s) = refl
count_role (Tree.truth b s) = refl
