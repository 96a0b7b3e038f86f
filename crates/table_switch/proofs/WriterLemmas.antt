-- What a writer has, as anchors are appended and published. To know: `writer-made`, `writer-appends`, `writer-after`, `writer-all`, `told-added`, `anchors-snoc`.
use Rattle.std.proofs.Common.{◌≡◌, List, [], ◌∷◌, ◌++◌, refl, sym, ap, ◌∙◌, subst, Option, Some}
use Rattle.std.proofs.lemmas.List.{append-nil, append_assoc}
use Rattle.std.specs.Prelude.{Result, Ok, Err, OnOk, OnErr}
use Rattle.rdb_base.proofs.PrefixLemmas.{prefix_trans}
use Rattle.meta_trie.specs.Tries.{Anchored}
use Rattle.table_switch.specs.Published.{FrontState, CopyState, ToldState, IsWhole, IsNext, IsWriter, with_told, with_anchor, told_all, anchors_of}
use Rattle.table_switch.proofs.RisingLemmas.{self-next}

-- anchors that are added one by one come after those that were there
pub told-added : (copy : CopyState) (told : List ToldState) → (told_all copy told).added ≡ copy.added ++ anchors_of told
told-added copy [] = sym (append-nil copy.added)
told-added copy (t ∷ ts) = told-added (with_told copy t) ts ∙ append_assoc copy.added (t.last ∷ []) (anchors_of ts)

told_snoc : (copy : CopyState) (told : List ToldState) (t : ToldState) → told_all copy (told ++ t ∷ []) ≡ with_told (told_all copy told) t
told_snoc copy [] t = refl
told_snoc copy (u ∷ ts) t = told_snoc (with_told copy u) ts t

pub anchors-snoc : (told : List ToldState) (t : ToldState) → anchors_of (told ++ t ∷ []) ≡ anchors_of told ++ t.last ∷ []
anchors-snoc [] t = refl
anchors-snoc (u ∷ ts) t = ap (λ (xs : List Anchored). u.last ∷ xs) (anchors-snoc ts t)

writer-begins : (all : FrontState) → all.anchors ≡ [] → IsWriter [] all (record { added = []; front = all }) (Some all) []
writer-begins all none =
    let whole : IsWhole (record { added = []; front = all }) = sym none in
    record { added = refl; whole = whole; next = self-next (record { added = []; front = all }) whole; all = refl; known = refl }

pub writer-appends : (added : List Anchored) (all : FrontState) (shown : CopyState) (known : Option FrontState) (told : List ToldState) (t : ToldState)
    → IsWriter added all shown known told → t.front ≡ with_anchor all t.last → IsWriter (added ++ t.last ∷ []) t.front shown known (told ++ t ∷ [])
writer-appends added all shown known told t w is =
    let now : CopyState = told_all shown told in
    let more : now.front.anchors ++ t.last ∷ [] ≡ t.front.anchors = ap (λ (f : FrontState). f.anchors ++ t.last ∷ []) w.all ∙ sym (ap (λ (f : FrontState). f.anchors) is) in
    record {
      added = ap (λ (xs : List Anchored). xs ++ t.last ∷ []) w.added ∙ (append_assoc shown.added (anchors_of told) (t.last ∷ []) ∙ ap (λ (xs : List Anchored). shown.added ++ xs) (sym (anchors-snoc told t)));
      whole = w.whole;
      next = subst (IsNext shown) (sym (told_snoc shown told t)) (record {
        whole = ap (λ (xs : List Anchored). xs ++ t.last ∷ []) w.next.whole ∙ more;
        switch = ap (λ (f : FrontState). f.switch) is ∙ (sym (ap (λ (f : FrontState). f.switch) w.all) ∙ w.next.switch);
        grows = prefix_trans shown.front.anchors now.front.anchors t.front.anchors w.next.grows (t.last ∷ [], more);
      });
      all = ap (λ (c : CopyState). c.front) (told_snoc shown told t);
      known = w.known;
    }

writer-publishes : (added : List Anchored) (all : FrontState) (shown : CopyState) (known : Option FrontState) (told : List ToldState)
    → IsWriter added all shown known told → IsWriter added all (told_all shown told) (Some (told_all shown told).front) []
writer-publishes added all shown known told w =
    let now : CopyState = told_all shown told in
    record { added = w.added ∙ (sym (told-added shown told) ∙ sym (append-nil now.added)); whole = w.next.whole; next = self-next now w.next.whole; all = w.all; known = refl }

-- the parts of a writer that was just made
pub writer-made : (own : List Anchored) (all : FrontState) (shown : CopyState) (seat : Option FrontState) (told : List ToldState)
    → own ≡ [] → all.anchors ≡ [] → shown ≡ record { added = []; front = all } → seat ≡ Some shown.front → told ≡ [] → IsWriter own all shown seat told
writer-made own all shown seat told empty none is knows idle =
    let known : seat ≡ Some all = knows ∙ ap (λ (c : CopyState). Some c.front) is in
    subst (λ (t : (List Anchored × CopyState) × (Option FrontState × List ToldState)). IsWriter t.0.0 all t.0.1 t.1.0 t.1.1) (λ i. ((sym empty i, sym is i), (sym known i, sym idle i))) (writer-begins all none)

-- the parts of a writer after a publish, or after one that was refused
pub writer-after : {X E : Type 0} (own : List Anchored) (all : FrontState) (shown next : CopyState) (seat after : Option FrontState) (told left : List ToldState) (r : Result X E)
    → IsWriter own all shown seat told → OnOk r (next ≡ told_all shown told) → OnOk r (left ≡ []) → OnOk r (after ≡ Some next.front)
    → OnErr r (next ≡ shown) → OnErr r (left ≡ told) → OnErr r (after ≡ seat) → IsWriter own all next after left
writer-after own all shown next seat after told left (Ok x) w published pending known refused kept knew =
    let same : after ≡ Some (told_all shown told).front = known ∙ ap (λ (c : CopyState). Some c.front) published in
    subst (λ (t : CopyState × (Option FrontState × List ToldState)). IsWriter own all t.0 t.1.0 t.1.1) (λ i. (sym published i, (sym same i, sym pending i))) (writer-publishes own all shown seat told w)
writer-after own all shown next seat after told left (Err e) w published pending known refused kept knew =
    subst (λ (t : CopyState × (Option FrontState × List ToldState)). IsWriter own all t.0 t.1.0 t.1.1) (λ i. (sym refused i, (sym knew i, sym kept i))) w

-- the roll of a writer has all anchors that were appended
pub writer-all : (own : List Anchored) (all : FrontState) (shown : CopyState) (seat : Option FrontState) (told : List ToldState)
    → IsWriter own all shown seat told → all ≡ record { switch = all.switch; anchors = shown.added ++ anchors_of told }
writer-all own all shown seat told w =
    let e : all.anchors ≡ shown.added ++ anchors_of told = ap (λ (f : FrontState). f.anchors) (sym w.all) ∙ (sym w.next.whole ∙ told-added shown told) in
    λ i. record { switch = all.switch; anchors = e i }

-- at Ok, one fact by another
pub on_ok : {X E : Type 0} (P Q : Type 0) → (P → Q) → (r : Result X E) → OnOk r P → OnOk r Q
on_ok P Q f (Ok x) p = f p
on_ok P Q f (Err e) p = tt

pub on_err : {X E : Type 0} (P Q : Type 0) → (P → Q) → (r : Result X E) → OnErr r P → OnErr r Q
on_err P Q f (Ok x) p = tt
on_err P Q f (Err e) p = f p
