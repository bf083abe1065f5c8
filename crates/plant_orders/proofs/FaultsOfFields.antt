-- The faults of fields, one field after the other.
use Rattle.std.proofs.Common.{◌≡◌, ◌∙◌, ◌+◌, ◌<◌, ℕ, length, take, get_or, List, [], ◌∷◌, ◌++◌, ap, sym, append-nil, append_assoc}
use Rattle.std.proofs.lemmas.List.{take_more}
use Rattle.plant_orders.specs.{field_fault, field_faults}
use Rattle.plant_orders.specs.declared.examining.RecordFault.{RecordFault}
use Rattle.plant_orders.specs.declared.fault.CsvKind.{CsvKind}

-- the faults of one field more
pub field_faults_more : (n : ℕ) (fields : List (List ℕ)) (ks : List CsvKind) (k : CsvKind)
    → field_faults n fields (ks ++ k ∷ []) ≡ field_faults n fields ks ++ field_fault n fields k
field_faults_more n fields [] k = append-nil (field_fault n fields k)
field_faults_more n fields (q ∷ ks) k =
    ap (λ fs. field_fault n fields q ++ fs) (field_faults_more n fields ks k)
    ∙ sym (append_assoc (field_fault n fields q) (field_faults n fields ks) (field_fault n fields k))

pub field_faults_added : (n : ℕ) (fields : List (List ℕ)) (ks : List CsvKind) (i : ℕ) (d : CsvKind) (before now : List RecordFault) → i < length ks
    → before ≡ field_faults n fields (take i ks) → now ≡ before ++ field_fault n fields (get_or ks i d) → now ≡ field_faults n fields (take (i + 1) ks)
field_faults_added n fields ks i d before now within so_far added =
    added ∙ ap (λ (fs : List RecordFault). fs ++ field_fault n fields (get_or ks i d)) so_far
    ∙ sym (ap (field_faults n fields) (take_more ks i d within) ∙ field_faults_more n fields (take i ks) (get_or ks i d))
