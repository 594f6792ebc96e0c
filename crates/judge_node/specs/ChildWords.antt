-- The state words of a node's children, one after another.
use Rattle.std.specs.Prelude.{◌≡◌, ◌<◌, false, List, ℕ, Option, IfSome}
use Rattle.std.specs.Iterator.{YieldsFirst}
use Rattle.model.specs.Lists.{has}
use Rattle.judge_node.specs.Node.{words_between}
use Rattle.judge_node.specs.declared.children.ChildWords.{ChildWords}

-- those of the children that are left
abbrev pub words_of : ChildWords → List ℕ
words_of c = words_between c.nodes.tree.now c.nodes.states.now c.next c.end

-- further on among the same children
pub record Further (p q : ChildWords) : Type 0 where
  pub nodes : q.nodes ≡ p.nodes
  pub next : p.next < q.next
  pub end : q.end ≡ p.end

-- The next word, if one is left, is the first of those that are left, and then the others are, further on.
abbrev pub NextChild : ChildWords → Option ℕ → ChildWords → Type 0
NextChild p r q = YieldsFirst words_of p r q × IfSome r (λ _. Further p q)

-- these are all of them, and none of them is 0
abbrev pub Gathered : ChildWords → List ℕ → Type 0
Gathered c words = (words ≡ words_of c) × (has (words_of c) 0 ≡ false)
