-- The published state of a table, by the meaning of its words, and the value and the list of words that 01 writes for a published value. Assumes nothing.
use Rattle.std.specs.Prelude.{not, ◌&&◌, cond, List, [], ◌∷◌, ◌++◌, ℕ, zero, suc, ◌+◌, ◌*◌, ◌/◌, ◌%◌, ◌^◌, ltb, length}
use Rattle.std.proofs.Math.Option.{none, some, map}
use Rattle.nodes.specs.NodeSets.{node_limit, has}
use Rattle.entries.specs.Pids.{half_word}
use Rattle.semantics.specs.Sizes.{group_names, names_per_group}
use Rattle.semantics.specs.Soundness.{size_of, hidden_of, members_of, links_of, free_of, group_named, pid_named}
use Rattle.answers.specs.declared.Value.{Value}
use Rattle.answers.specs.declared.Value.TheVariants.{Grouped, Nodes, Listed}
use Rattle.answers.specs.declared.Value.TheVariants as W
use Rattle.published.specs.Published as P
use Rattle.published.specs.Published.{Set, Map, nobody, of_some, SGroup, GrNames, NoGroup, Names, Published, IsSGroupSNode, IsSGroupNode, Nis, Nss, Snis}

-- ---- tables

-- group g
abbrev pub group_seen : List ℕ → ℕ → SGroup
group_seen t g = record { nodes = has (members_of t g); namespace = pid_named names_per_group t g }

-- the gr_names of ni, as the s_groups have them
abbrev pub names_seen : ℕ → Map SGroup → GrNames
names_seen ni grs = cond (IsSGroupNode ni grs) (Names (λ s. IsSGroupSNode ni s grs)) NoGroup

-- the published state of a table
unfoldable pub seen_table : List ℕ → Published
seen_table t =
    let grs : Map SGroup = λ s. map (group_seen t) (group_named t s) in
    record {
      grs = grs;
      fgs = λ ni. cond (ltb ni (size_of t)) (has (free_of t ni)) nobody;
      fhs = λ ni. has (hidden_of t) ni && not (IsSGroupNode ni grs);
      nds = λ ni.
          cond (ltb ni (size_of t))
          (some (record { hidden = has (hidden_of t) ni; connections = has (links_of t ni); gr_names = names_seen ni grs }))
          none;
    }

-- ---- values

-- the nodes of a below n as a word
unfoldable pub set_word : ℕ → Set → ℕ
set_word zero a = 0
set_word (suc n) a = cond (a n) (2 ^ n + set_word n a) (set_word n a)

-- how many numbers below n are in a
unfoldable pub how_many : ℕ → Set → ℕ
how_many zero a = 0
how_many (suc n) a = cond (a n) (suc (how_many n a)) (how_many n a)

-- the n lists from f k on, one after another
unfoldable pub chained : {A : Type 0} → ℕ → ℕ → (ℕ → List A) → List A
chained zero k f = []
chained (suc n) k f = f k ++ chained n (suc k) f

-- the words s × 2^32 + n, ascending
abbrev pub name_words : (ℕ → Set) → List ℕ
name_words nss = chained (group_names * half_word) 0 (λ w. cond (nss (w / half_word) (w % half_word)) (w ∷ []) [])

-- the words s and nis, by s
abbrev pub group_words : Map Set → List ℕ
group_words snis = chained group_names 0 (λ s. of_some [] (λ nis. s ∷ set_word node_limit nis ∷ []) (snis s))

-- a list, and how many words it has
abbrev pub listed : List ℕ → Value × List ℕ
listed ws = (Listed (length ws), ws)

-- the value, and the words of its list
abbrev pub said : P.Value → Value × List ℕ
said P.True = (W.True, [])
said P.False = (W.False, [])
said P.Error = (W.Error, [])
said P.Undefined = (W.Undefined, [])
said (P.Pid p) = (W.Pid p, [])
said (P.Grp s nis) = (Grouped s (set_word node_limit nis), [])
said (Nis nis) = (Nodes (set_word node_limit nis) (how_many node_limit nis), [])
said (Nss nss) = listed (name_words nss)
said (Snis snis) = listed (group_words snis)
