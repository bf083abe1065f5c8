-- What the columns of a line keep.
use Rattle.std.proofs.Common.{◌≡◌, refl, sym, ap, ◌∙◌, subst, ℕ, suc, ◌+◌, pos, List, [], ◌∷◌, length, true, ◌&&◌, Option, Some, eqb-true, arith}
use Rattle.std.proofs.lemmas.Bool.{and_parts}
use Rattle.std.proofs.lemmas.List.{nil_from_length}
use Rattle.sqlite.specs.declared.types.Value.{Value}
use Rattle.sqlite.specs.declared.types.Value.TheVariants.{Null, Int, Text}
use Rattle.sqlite.specs.Order.{Row, column}
use Rattle.plant_base.specs.{is_id, is_amount, greatest_amount, HasLineValues, RecipeLine}
use Rattle.plant_base.specs.declared.rows.RecipeLine.TheVariants as line
use Rattle.sql_tables.specs.{integer, fits_columns}
use Rattle.plant_tables_columns.specs.{Kind, number, is_null, is_empty, id_from, text_from, amount_from, all_line_kind_codes, line_kind_from, line_kind_number, columns_of_line, material_from, has_no_material, parameter_from, phase_from, line_of_code, line_from, line_columns}
use Rattle.plant_tables_columns.specs.Reading.{is_zero}
use Rattle.plant_tables_columns.specs.declared.line.LineKindCode.{LineKindCode}
use Rattle.plant_tables_columns.specs.declared.line.LineKindCode.TheVariants as line_kind_code
use Rattle.plant_tables_columns.specs.declared.line.Material.{Material}
use Rattle.plant_tables_columns.proofs.OptionalValues.{bound, mapped, some_same, where_true}
use Rattle.plant_tables_columns.proofs.KindLaws.{IsKind, Any, id_kind, text_like, number_kind, null_is}
use Rattle.plant_tables_columns.proofs.WordsAndNumbers.{numbered_kind, int_same, line_kind_own}
use Rattle.plant_tables_columns.proofs.ColumnLaws.{StoredFrom, AreLawful}

abbrev line_sorts : Kind LineKindCode
line_sorts = record { declared = integer; stored = λ s. number (line_kind_number s); read = line_kind_from }

line_kind_code_kind : IsKind line_sorts Any Any
unfolding line_kind_from
line_kind_code_kind = numbered_kind line_kind_number all_line_kind_codes line_kind_own

empty_is : (v : Value) → is_empty v ≡ true → v ≡ Text []
unfolding is_empty
empty_is (Text bytes) h = ap Text (nil_from_length bytes (eqb-true (length bytes) 0 h))
empty_is _ h = absurd (cc)

zero_is : (v : Value) → is_zero v ≡ true → v ≡ number 0
unfolding is_zero
zero_is (Int n) h = ap Int (int_same n (pos 0) h)
zero_is _ h = absurd (cc)

columns : {v1 w1 v2 w2 v3 w3 v4 w4 v5 w5 v6 w6 : Value} → v1 ≡ w1 → v2 ≡ w2 → v3 ≡ w3 → v4 ≡ w4 → v5 ≡ w5 → v6 ≡ w6
    → ◌≡◌ {A = Row} (v1 ∷ v2 ∷ v3 ∷ v4 ∷ v5 ∷ v6 ∷ []) (w1 ∷ w2 ∷ w3 ∷ w4 ∷ w5 ∷ w6 ∷ [])
columns e1 e2 e3 e4 e5 e6 = λ i. e1 i ∷ e2 i ∷ e3 i ∷ e4 i ∷ e5 i ∷ e6 i ∷ []

module _ (def qty t1 t2 t3 : Value) where
  record IsMaterialOf (m : Material) : Type 0 where
    pub is_def : def ≡ Text m.def
    pub is_qty : qty ≡ number m.amount
    pub no_first : t1 ≡ Text []
    pub no_second : t2 ≡ Text []
    pub no_third : t3 ≡ Text []
    pub valid_def : is_id m.def ≡ true
    pub valid_amount : is_amount m.amount ≡ true

  material_back : (m : Material) → material_from def qty t1 t2 t3 ≡ Some m → IsMaterialOf m
  unfolding material_from
  material_back m h =
      let parts = where_true (is_empty t1 && is_empty t2 && is_empty t3) _ m h in
      let tests = and_parts (is_empty t1 && is_empty t2) (is_empty t3) parts.0 in
      let pair = and_parts (is_empty t1) (is_empty t2) tests.0 in
      let p1 = bound (id_from def) _ m parts.1 in
      let p2 = bound (amount_from qty) _ m p1.2 in
      let same : record { def = p1.0; amount = p2.0 } ≡ m = some_same _ _ p2.2 in
      subst IsMaterialOf same (record {
        is_def = id_kind.back def p1.0 p1.1 tt;
        is_qty = (number_kind 1 greatest_amount).back qty p2.0 p2.1 tt;
        no_first = empty_is t1 pair.0;
        no_second = empty_is t2 pair.1;
        no_third = empty_is t3 tests.1;
        valid_def = id_kind.keeps def p1.0 p1.1;
        valid_amount = (number_kind 1 greatest_amount).keeps qty p2.0 p2.1;
      })

  no_material_back : has_no_material def qty ≡ true → (def ≡ Null) × (qty ≡ number 0)
  unfolding has_no_material
  no_material_back h = let parts = and_parts (is_null def) (is_zero qty) h in (null_is def parts.0, zero_is qty parts.1)

  kind_code_back : (kind : Value) (s : LineKindCode) (l : RecipeLine) → kind ≡ number (line_kind_number s) → line_of_code s def qty t1 t2 t3 ≡ Some l
      → ◌≡◌ {A = Row} (kind ∷ def ∷ qty ∷ t1 ∷ t2 ∷ t3 ∷ []) (columns_of_line l) × HasLineValues l
  unfolding parameter_from phase_from
  kind_code_back kind line_kind_code.In l is h =
      let p = mapped (λ (m : Material). line.In m.def m.amount) (material_from def qty t1 t2 t3) l h in
      let m = material_back p.0 p.1 in
      (columns is m.is_def m.is_qty m.no_first m.no_second m.no_third ∙ ap columns_of_line p.2, subst HasLineValues p.2 (m.valid_def, m.valid_amount))
  kind_code_back kind line_kind_code.Out l is h =
      let p = mapped (λ (m : Material). line.Out m.def m.amount) (material_from def qty t1 t2 t3) l h in
      let m = material_back p.0 p.1 in
      (columns is m.is_def m.is_qty m.no_first m.no_second m.no_third ∙ ap columns_of_line p.2, subst HasLineValues p.2 (m.valid_def, m.valid_amount))
  kind_code_back kind line_kind_code.Parameter l is h =
      let parts = where_true (has_no_material def qty && is_empty t3) _ l h in
      let tests = and_parts (has_no_material def qty) (is_empty t3) parts.0 in
      let none = no_material_back tests.0 in
      let p1 = bound (id_from t1) _ l parts.1 in
      let p2 = bound (text_from t2) _ l p1.2 in
      let same = some_same _ l p2.2 in
      (columns is none.0 none.1 (id_kind.back t1 p1.0 p1.1 tt) (text_like.back t2 p2.0 p2.1 tt) (empty_is t3 tests.1) ∙ ap columns_of_line same, subst HasLineValues same (id_kind.keeps t1 p1.0 p1.1, text_like.keeps t2 p2.0 p2.1))
  kind_code_back kind line_kind_code.Phase l is h =
      let parts = where_true (has_no_material def qty) _ l h in
      let none = no_material_back parts.0 in
      let p1 = bound (id_from t1) _ l parts.1 in
      let p2 = bound (id_from t2) _ l p1.2 in
      let p3 = bound (id_from t3) _ l p2.2 in
      let same = some_same _ l p3.2 in
      (columns is none.0 none.1 (id_kind.back t1 p1.0 p1.1 tt) (id_kind.back t2 p2.0 p2.1 tt) (id_kind.back t3 p3.0 p3.1 tt) ∙ ap columns_of_line same, subst HasLineValues same (id_kind.keeps t1 p1.0 p1.1, id_kind.keeps t2 p2.0 p2.1, id_kind.keeps t3 p3.0 p3.1))

  line_back : (kind : Value) (l : RecipeLine) → line_from kind def qty t1 t2 t3 ≡ Some l → ◌≡◌ {A = Row} (kind ∷ def ∷ qty ∷ t1 ∷ t2 ∷ t3 ∷ []) (columns_of_line l) × HasLineValues l
  unfolding line_from
  line_back kind l h =
      let p = bound (line_kind_from kind) _ l h in
      kind_code_back kind p.0 l (line_kind_code_kind.back kind p.0 p.1 tt) p.2

kind_code_again : (s : LineKindCode) (def qty t1 t2 t3 : Value) (l : RecipeLine) → line_of_code s def qty t1 t2 t3 ≡ Some l → line_from (number (line_kind_number s)) def qty t1 t2 t3 ≡ Some l
unfolding line_from
kind_code_again s def qty t1 t2 t3 l h = rw (line_kind_code_kind.again s tt tt) h

material_again : (def : List ℕ) (n : ℕ) → is_id def ≡ true → is_amount n ≡ true → material_from (Text def) (number n) (Text []) (Text []) (Text []) ≡ Some (record { def = def; amount = n })
unfolding material_from is_empty
material_again def n valid_def valid_amount = rw (id_kind.again def valid_def tt, (number_kind 1 greatest_amount).again n valid_amount tt) refl

parameter_again : (name value : List ℕ) → HasLineValues (line.Parameter name value) → parameter_from Null (number 0) (Text name) (Text value) (Text []) ≡ Some (line.Parameter name value)
unfolding parameter_from has_no_material is_empty is_zero
parameter_again name value valid = rw (id_kind.again name valid.0 tt, text_like.again value valid.1 tt) refl

phase_again : (unit_procedure operation phase : List ℕ) → HasLineValues (line.Phase unit_procedure operation phase) → phase_from Null (number 0) (Text unit_procedure) (Text operation) (Text phase) ≡ Some (line.Phase unit_procedure operation phase)
unfolding phase_from has_no_material is_zero
phase_again unit_procedure operation phase valid = rw (id_kind.again unit_procedure valid.0 tt, id_kind.again operation valid.1 tt, id_kind.again phase valid.2 tt) refl

-- a row has its own six columns
six_stand : (row : Row) (at : ℕ) → StoredFrom row at (column row at ∷ column row (at + 1) ∷ column row (at + 2) ∷ column row (at + 3) ∷ column row (at + 4) ∷ column row (at + 5) ∷ [])
six_stand row at =
    let n1 : suc at ≡ at + 1 = omega arith in
    let n2 : suc (suc at) ≡ at + 2 = omega arith in
    let n3 : suc (suc (suc at)) ≡ at + 3 = omega arith in
    let n4 : suc (suc (suc (suc at))) ≡ at + 4 = omega arith in
    let n5 : suc (suc (suc (suc (suc at)))) ≡ at + 5 = omega arith in
    (refl, (ap (column row) n1, (ap (column row) n2, (ap (column row) n3, (ap (column row) n4, (ap (column row) n5, tt))))))

-- where a row has six values, they are the line's columns
six : (row : Row) (at : ℕ) (a b c d e f : Value) (o : Option RecipeLine) → StoredFrom row at (a ∷ b ∷ c ∷ d ∷ e ∷ f ∷ []) → line_from a b c d e f ≡ o → line_columns.read row at ≡ o
six row at a b c d e f o h is =
    let n = six_stand row at in
    (λ i. line_from (h.0 i) ((sym n.1.0 ∙ h.1.0) i) ((sym n.1.1.0 ∙ h.1.1.0) i) ((sym n.1.1.1.0 ∙ h.1.1.1.0) i) ((sym n.1.1.1.1.0 ∙ h.1.1.1.1.0) i) ((sym n.1.1.1.1.1.0 ∙ h.1.1.1.1.1.0) i)) ∙ is

line_fits : (l : RecipeLine) → fits_columns line_columns.declared (columns_of_line l) ≡ true
line_fits (line.In d n) = refl
line_fits _ = refl

line_again : (row : Row) (at : ℕ) (l : RecipeLine) → StoredFrom row at (columns_of_line l) → HasLineValues l → line_columns.read row at ≡ Some l
line_again row at (line.In d n) h valid = six row at _ _ _ _ _ _ _ h (kind_code_again line_kind_code.In _ _ _ _ _ (line.In d n) (rw (material_again d n valid.0 valid.1) refl))
line_again row at (line.Out d n) h valid = six row at _ _ _ _ _ _ _ h (kind_code_again line_kind_code.Out _ _ _ _ _ (line.Out d n) (rw (material_again d n valid.0 valid.1) refl))
line_again row at (line.Parameter name value) h valid = six row at _ _ _ _ _ _ _ h (kind_code_again line_kind_code.Parameter _ _ _ _ _ (line.Parameter name value) (parameter_again name value valid))
line_again row at (line.Phase unit_procedure operation phase) h valid = six row at _ _ _ _ _ _ _ h (kind_code_again line_kind_code.Phase _ _ _ _ _ (line.Phase unit_procedure operation phase) (phase_again unit_procedure operation phase valid))

pub line_lawful : AreLawful line_columns HasLineValues Any
line_lawful = record {
  fits = line_fits;
  back = λ row at l h _. subst (StoredFrom row at) (line_back _ _ _ _ _ _ l h).0 (six_stand row at);
  again = λ row at l h valid _. line_again row at l h valid;
  keeps = λ row at l h. (line_back _ _ _ _ _ _ l h).1;
}
