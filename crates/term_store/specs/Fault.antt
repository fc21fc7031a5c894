-- Where a tree was refused for its depth.
use Rattle.term_store.specs.declared.ids.FormId.{FormId}
use Rattle.term_store.specs.declared.fault.MkFault.{MkFault}
use Rattle.term_store.specs.declared.fault.MkFault.TheVariants as made
use Rattle.term_store.specs.declared.fault.EnterFault.{EnterFault}
use Rattle.term_store.specs.declared.fault.EnterFault.TheVariants as entered
use Rattle.term_store.specs.declared.fault.OpenFault.{OpenFault}
use Rattle.term_store.specs.declared.fault.OpenFault.TheVariants as opened

-- what holds of the node that is handed back
abbrev pub IfDeep : {N : Type 0} → (N → Type 0) → MkFault N → Type 0
IfDeep P made.Memory = Unit {0}
IfDeep P (made.Deep n) = P n

-- what holds where the tree is too deep
abbrev pub IfTooDeep : Type 0 → EnterFault → Type 0
IfTooDeep P entered.Memory = Unit {0}
IfTooDeep P entered.Deep = P

-- what holds of the formula that is named
abbrev pub IfDeepAt : (FormId → Type 0) → OpenFault → Type 0
IfDeepAt P opened.Memory = Unit {0}
IfDeepAt P (opened.Deep i) = P i

-- the fault that names the formula
abbrev pub fault_of : FormId → EnterFault → OpenFault
fault_of i entered.Memory = opened.Memory
fault_of i entered.Deep = opened.Deep i
