-- The root flow, once its name, its kind and its store are read.
use Rattle.std.proofs.Common.{◌≡◌, ℕ, List, [], None, Ok, codes, subst, sym, ◌∙◌}
use Rattle.tf_files.proofs.ReadingLemmas.{known_goes, chain_goes, chain_stops}
use Rattle.tf_files.specs.document.Reading.{RefusesWith, chain, unknown_key, required, optional, name_form, binds_form}
use Rattle.tf_files.specs.declared.document.faults.FileFault.{FileFault}
use Rattle.tf_flow.specs.declared.atoms.Bind.{Bind}
use Rattle.tf_flow.specs.declared.nested.FlowKind.{FlowKind}
use Rattle.tf_flow.specs.Plan.{WrittenTree}
use Rattle.tf_files.specs.FlowFile.{root_form, root_keys, pattern_form, flow_inside}
use Rattle.toml.specs.Data.{Members}

-- what is read before the items of the root, under the empty path
pub record Begun (path : List ℕ) (document : Members) (name : List ℕ) (kind : FlowKind) (store : List Bind) : Type 0 where
  pub root : path ≡ []
  pub known : unknown_key root_keys document ≡ None
  pub named : required path (codes "name") document name_form ≡ Ok name
  pub kinded : required path (codes "kind") document pattern_form ≡ Ok kind
  pub stored : optional path (codes "store") document [] binds_form ≡ Ok store

-- the rest is what stands in the flow
root_goes : (document : Members) (name : List ℕ) (kind : FlowKind) (store : List Bind) → Begun [] document name kind store
    → root_form document ≡ chain (flow_inside 15 [] document name kind) (λ root. Ok (record { root = root; store = store }))
root_goes document name kind store begun =
    known_goes [] root_keys document _ begun.known
    ∙ chain_goes (required [] (codes "name") document name_form) _ name begun.named
    ∙ chain_goes (required [] (codes "kind") document pattern_form) _ kind begun.kinded
    ∙ chain_goes (optional [] (codes "store") document [] binds_form) _ store begun.stored

at_root : (path : List ℕ) (document : Members) (name : List ℕ) (kind : FlowKind) (store : List Bind) → Begun path document name kind store → Begun [] document name kind store
at_root path document name kind store begun = subst (λ p. Begun p document name kind store) begun.root begun

pub root_read : (path : List ℕ) (document : Members) (name : List ℕ) (kind : FlowKind) (store : List Bind) (root : WrittenTree) → Begun path document name kind store
    → flow_inside 15 path document name kind ≡ Ok root → root_form document ≡ Ok (record { root = root; store = store })
root_read path document name kind store root begun inside =
    let here : flow_inside 15 [] document name kind ≡ Ok root = subst (λ p. flow_inside 15 p document name kind ≡ Ok root) begun.root inside in
    root_goes document name kind store (at_root path document name kind store begun)
    ∙ chain_goes (flow_inside 15 [] document name kind) _ root here

pub root_stops : (path : List ℕ) (document : Members) (name : List ℕ) (kind : FlowKind) (store : List Bind) (e : FileFault) → Begun path document name kind store
    → RefusesWith (flow_inside 15 path document name kind) e → RefusesWith (root_form document) e
root_stops path document name kind store e begun inside =
    let here : RefusesWith (flow_inside 15 [] document name kind) e = subst (λ p. RefusesWith (flow_inside 15 p document name kind) e) begun.root inside in
    subst (λ read. RefusesWith read e) (sym (root_goes document name kind store (at_root path document name kind store begun)))
    (chain_stops (flow_inside 15 [] document name kind) _ e here)
