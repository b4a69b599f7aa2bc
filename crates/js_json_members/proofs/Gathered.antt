-- Reading several members one after another: what is read, or the first fault.
use Rattle.std.proofs.Common.{◌≡◌, ap, sym, refl, subst}
use Rattle.std.specs.Prelude.{Result, Ok, Err}
use Rattle.js_base.specs.Results.{both, all_3, all_4, all_5, all_6, all_7}
use Rattle.js_json_members.specs.Member.{Gives, Fails, ◌>>=◌}
use Rattle.js_json_members.specs.declared.error.ReadError.{ReadError}
use Rattle.js_json_members.specs.declared.error.ReadError.TheVariants.{Missing, WrongKind, OutOfRange, Float, NotJson, OutOfMemory}

-- what is read comes as it is
itself : {A : Type 0} (r : Result A ReadError) → Gives r r
itself (Ok x) = refl
itself (Err OutOfMemory) = tt
itself (Err (Missing key)) = refl
itself (Err (WrongKind key)) = refl
itself (Err (OutOfRange key)) = refl
itself (Err Float) = refl
itself (Err NotJson) = refl

-- a fault stays the first, whatever follows
first_fault : {A B : Type 0} (e : ReadError) (r : Result A ReadError) (k : A → Result B ReadError) → Fails e r → Fails e (r >>= k)
first_fault OutOfMemory r k p = tt
first_fault (Missing key) r k p = ap (λ r. r >>= k) p
first_fault (WrongKind key) r k p = ap (λ r. r >>= k) p
first_fault (OutOfRange key) r k p = ap (λ r. r >>= k) p
first_fault Float r k p = ap (λ r. r >>= k) p
first_fault NotJson r k p = ap (λ r. r >>= k) p

-- what follows a value that was read
after : {A B : Type 0} {r : Result A ReadError} {x : A} (k : A → Result B ReadError) (s : Result B ReadError) → r ≡ Ok x → Gives s (k x) → Gives s (r >>= k)
after k s p h = subst (λ r. Gives s (r >>= k)) (sym p) h

-- two values
given_2 : {A B T : Type 0} (a : Result A ReadError) (b : Result B ReadError) (ra : Result A ReadError) (rb : Result B ReadError) → Gives a ra → Gives b rb
    → (k : A → B → Result T ReadError)
    → Gives (both a b >>= λ g. k g.0 g.1) (ra >>= λ x. rb >>= λ y. k x y)
given_2 (Err e) b ra rb pa pb k = first_fault e ra (λ x. rb >>= λ y. k x y) pa
given_2 (Ok x) (Err e) ra rb pa pb k = after (λ x. rb >>= λ y. k x y) (Err e) pa (first_fault e rb (λ y. k x y) pb)
given_2 (Ok x) (Ok y) ra rb pa pb k = after (λ x. rb >>= λ y. k x y) (k x y) pa (after (λ y. k x y) (k x y) pb (itself (k x y)))

pub gathered_2 : {A B T : Type 0} (r : Result (A × B) ReadError) (a : Result A ReadError) (b : Result B ReadError) (ra : Result A ReadError) (rb : Result B ReadError)
    → r ≡ both a b → Gives a ra → Gives b rb
    → (k : A → B → Result T ReadError)
    → Gives (r >>= λ g. k g.0 g.1) (ra >>= λ x. rb >>= λ y. k x y)
gathered_2 r a b ra rb is pa pb k = subst (λ r. Gives (r >>= λ g. k g.0 g.1) (ra >>= λ x. rb >>= λ y. k x y)) (sym is) (given_2 a b ra rb pa pb k)

-- three values
given_3 : {A B C T : Type 0} (a : Result A ReadError) (b : Result B ReadError) (c : Result C ReadError) (ra : Result A ReadError) (rb : Result B ReadError) (rc : Result C ReadError) → Gives a ra → Gives b rb → Gives c rc
    → (k : A → B → C → Result T ReadError)
    → Gives (all_3 a b c >>= λ g. k g.0 g.1 g.2) (ra >>= λ x. rb >>= λ y. rc >>= λ z. k x y z)
given_3 (Err e) b c ra rb rc pa pb pc k = first_fault e ra (λ x. rb >>= λ y. rc >>= λ z. k x y z) pa
given_3 (Ok x) (Err e) c ra rb rc pa pb pc k = after (λ x. rb >>= λ y. rc >>= λ z. k x y z) (Err e) pa (first_fault e rb (λ y. rc >>= λ z. k x y z) pb)
given_3 (Ok x) (Ok y) (Err e) ra rb rc pa pb pc k = after (λ x. rb >>= λ y. rc >>= λ z. k x y z) (Err e) pa (after (λ y. rc >>= λ z. k x y z) (Err e) pb (first_fault e rc (λ z. k x y z) pc))
given_3 (Ok x) (Ok y) (Ok z) ra rb rc pa pb pc k = after (λ x. rb >>= λ y. rc >>= λ z. k x y z) (k x y z) pa (after (λ y. rc >>= λ z. k x y z) (k x y z) pb (after (λ z. k x y z) (k x y z) pc (itself (k x y z))))

pub gathered_3 : {A B C T : Type 0} (r : Result (A × B × C) ReadError) (a : Result A ReadError) (b : Result B ReadError) (c : Result C ReadError) (ra : Result A ReadError) (rb : Result B ReadError) (rc : Result C ReadError)
    → r ≡ all_3 a b c → Gives a ra → Gives b rb → Gives c rc
    → (k : A → B → C → Result T ReadError)
    → Gives (r >>= λ g. k g.0 g.1 g.2) (ra >>= λ x. rb >>= λ y. rc >>= λ z. k x y z)
gathered_3 r a b c ra rb rc is pa pb pc k = subst (λ r. Gives (r >>= λ g. k g.0 g.1 g.2) (ra >>= λ x. rb >>= λ y. rc >>= λ z. k x y z)) (sym is) (given_3 a b c ra rb rc pa pb pc k)

-- four values
given_4 : {A B C D T : Type 0} (a : Result A ReadError) (b : Result B ReadError) (c : Result C ReadError) (d : Result D ReadError) (ra : Result A ReadError) (rb : Result B ReadError) (rc : Result C ReadError) (rd : Result D ReadError) → Gives a ra → Gives b rb → Gives c rc → Gives d rd
    → (k : A → B → C → D → Result T ReadError)
    → Gives (all_4 a b c d >>= λ g. k g.0 g.1 g.2 g.3) (ra >>= λ x. rb >>= λ y. rc >>= λ z. rd >>= λ u. k x y z u)
given_4 (Err e) b c d ra rb rc rd pa pb pc pd k = first_fault e ra (λ x. rb >>= λ y. rc >>= λ z. rd >>= λ u. k x y z u) pa
given_4 (Ok x) (Err e) c d ra rb rc rd pa pb pc pd k = after (λ x. rb >>= λ y. rc >>= λ z. rd >>= λ u. k x y z u) (Err e) pa (first_fault e rb (λ y. rc >>= λ z. rd >>= λ u. k x y z u) pb)
given_4 (Ok x) (Ok y) (Err e) d ra rb rc rd pa pb pc pd k = after (λ x. rb >>= λ y. rc >>= λ z. rd >>= λ u. k x y z u) (Err e) pa (after (λ y. rc >>= λ z. rd >>= λ u. k x y z u) (Err e) pb (first_fault e rc (λ z. rd >>= λ u. k x y z u) pc))
given_4 (Ok x) (Ok y) (Ok z) (Err e) ra rb rc rd pa pb pc pd k = after (λ x. rb >>= λ y. rc >>= λ z. rd >>= λ u. k x y z u) (Err e) pa (after (λ y. rc >>= λ z. rd >>= λ u. k x y z u) (Err e) pb (after (λ z. rd >>= λ u. k x y z u) (Err e) pc (first_fault e rd (λ u. k x y z u) pd)))
given_4 (Ok x) (Ok y) (Ok z) (Ok u) ra rb rc rd pa pb pc pd k = after (λ x. rb >>= λ y. rc >>= λ z. rd >>= λ u. k x y z u) (k x y z u) pa (after (λ y. rc >>= λ z. rd >>= λ u. k x y z u) (k x y z u) pb (after (λ z. rd >>= λ u. k x y z u) (k x y z u) pc (after (λ u. k x y z u) (k x y z u) pd (itself (k x y z u)))))

pub gathered_4 : {A B C D T : Type 0} (r : Result (A × B × C × D) ReadError) (a : Result A ReadError) (b : Result B ReadError) (c : Result C ReadError) (d : Result D ReadError) (ra : Result A ReadError) (rb : Result B ReadError) (rc : Result C ReadError) (rd : Result D ReadError)
    → r ≡ all_4 a b c d → Gives a ra → Gives b rb → Gives c rc → Gives d rd
    → (k : A → B → C → D → Result T ReadError)
    → Gives (r >>= λ g. k g.0 g.1 g.2 g.3) (ra >>= λ x. rb >>= λ y. rc >>= λ z. rd >>= λ u. k x y z u)
gathered_4 r a b c d ra rb rc rd is pa pb pc pd k = subst (λ r. Gives (r >>= λ g. k g.0 g.1 g.2 g.3) (ra >>= λ x. rb >>= λ y. rc >>= λ z. rd >>= λ u. k x y z u)) (sym is) (given_4 a b c d ra rb rc rd pa pb pc pd k)

-- five values
given_5 : {A B C D F T : Type 0} (a : Result A ReadError) (b : Result B ReadError) (c : Result C ReadError) (d : Result D ReadError) (f : Result F ReadError) (ra : Result A ReadError) (rb : Result B ReadError) (rc : Result C ReadError) (rd : Result D ReadError) (rf : Result F ReadError) → Gives a ra → Gives b rb → Gives c rc → Gives d rd → Gives f rf
    → (k : A → B → C → D → F → Result T ReadError)
    → Gives (all_5 a b c d f >>= λ g. k g.0 g.1 g.2 g.3 g.4) (ra >>= λ x. rb >>= λ y. rc >>= λ z. rd >>= λ u. rf >>= λ v. k x y z u v)
given_5 (Err e) b c d f ra rb rc rd rf pa pb pc pd pf k = first_fault e ra (λ x. rb >>= λ y. rc >>= λ z. rd >>= λ u. rf >>= λ v. k x y z u v) pa
given_5 (Ok x) (Err e) c d f ra rb rc rd rf pa pb pc pd pf k = after (λ x. rb >>= λ y. rc >>= λ z. rd >>= λ u. rf >>= λ v. k x y z u v) (Err e) pa (first_fault e rb (λ y. rc >>= λ z. rd >>= λ u. rf >>= λ v. k x y z u v) pb)
given_5 (Ok x) (Ok y) (Err e) d f ra rb rc rd rf pa pb pc pd pf k = after (λ x. rb >>= λ y. rc >>= λ z. rd >>= λ u. rf >>= λ v. k x y z u v) (Err e) pa (after (λ y. rc >>= λ z. rd >>= λ u. rf >>= λ v. k x y z u v) (Err e) pb (first_fault e rc (λ z. rd >>= λ u. rf >>= λ v. k x y z u v) pc))
given_5 (Ok x) (Ok y) (Ok z) (Err e) f ra rb rc rd rf pa pb pc pd pf k = after (λ x. rb >>= λ y. rc >>= λ z. rd >>= λ u. rf >>= λ v. k x y z u v) (Err e) pa (after (λ y. rc >>= λ z. rd >>= λ u. rf >>= λ v. k x y z u v) (Err e) pb (after (λ z. rd >>= λ u. rf >>= λ v. k x y z u v) (Err e) pc (first_fault e rd (λ u. rf >>= λ v. k x y z u v) pd)))
given_5 (Ok x) (Ok y) (Ok z) (Ok u) (Err e) ra rb rc rd rf pa pb pc pd pf k = after (λ x. rb >>= λ y. rc >>= λ z. rd >>= λ u. rf >>= λ v. k x y z u v) (Err e) pa (after (λ y. rc >>= λ z. rd >>= λ u. rf >>= λ v. k x y z u v) (Err e) pb (after (λ z. rd >>= λ u. rf >>= λ v. k x y z u v) (Err e) pc (after (λ u. rf >>= λ v. k x y z u v) (Err e) pd (first_fault e rf (λ v. k x y z u v) pf))))
given_5 (Ok x) (Ok y) (Ok z) (Ok u) (Ok v) ra rb rc rd rf pa pb pc pd pf k = after (λ x. rb >>= λ y. rc >>= λ z. rd >>= λ u. rf >>= λ v. k x y z u v) (k x y z u v) pa (after (λ y. rc >>= λ z. rd >>= λ u. rf >>= λ v. k x y z u v) (k x y z u v) pb (after (λ z. rd >>= λ u. rf >>= λ v. k x y z u v) (k x y z u v) pc (after (λ u. rf >>= λ v. k x y z u v) (k x y z u v) pd (after (λ v. k x y z u v) (k x y z u v) pf (itself (k x y z u v))))))

pub gathered_5 : {A B C D F T : Type 0} (r : Result (A × B × C × D × F) ReadError) (a : Result A ReadError) (b : Result B ReadError) (c : Result C ReadError) (d : Result D ReadError) (f : Result F ReadError) (ra : Result A ReadError) (rb : Result B ReadError) (rc : Result C ReadError) (rd : Result D ReadError) (rf : Result F ReadError)
    → r ≡ all_5 a b c d f → Gives a ra → Gives b rb → Gives c rc → Gives d rd → Gives f rf
    → (k : A → B → C → D → F → Result T ReadError)
    → Gives (r >>= λ g. k g.0 g.1 g.2 g.3 g.4) (ra >>= λ x. rb >>= λ y. rc >>= λ z. rd >>= λ u. rf >>= λ v. k x y z u v)
gathered_5 r a b c d f ra rb rc rd rf is pa pb pc pd pf k = subst (λ r. Gives (r >>= λ g. k g.0 g.1 g.2 g.3 g.4) (ra >>= λ x. rb >>= λ y. rc >>= λ z. rd >>= λ u. rf >>= λ v. k x y z u v)) (sym is) (given_5 a b c d f ra rb rc rd rf pa pb pc pd pf k)

-- six values
given_6 : {A B C D F G T : Type 0} (a : Result A ReadError) (b : Result B ReadError) (c : Result C ReadError) (d : Result D ReadError) (f : Result F ReadError) (g : Result G ReadError) (ra : Result A ReadError) (rb : Result B ReadError) (rc : Result C ReadError) (rd : Result D ReadError) (rf : Result F ReadError) (rg : Result G ReadError) → Gives a ra → Gives b rb → Gives c rc → Gives d rd → Gives f rf → Gives g rg
    → (k : A → B → C → D → F → G → Result T ReadError)
    → Gives (all_6 a b c d f g >>= λ g. k g.0 g.1 g.2 g.3 g.4 g.5) (ra >>= λ x. rb >>= λ y. rc >>= λ z. rd >>= λ u. rf >>= λ v. rg >>= λ w. k x y z u v w)
given_6 (Err e) b c d f g ra rb rc rd rf rg pa pb pc pd pf pg k = first_fault e ra (λ x. rb >>= λ y. rc >>= λ z. rd >>= λ u. rf >>= λ v. rg >>= λ w. k x y z u v w) pa
given_6 (Ok x) (Err e) c d f g ra rb rc rd rf rg pa pb pc pd pf pg k = after (λ x. rb >>= λ y. rc >>= λ z. rd >>= λ u. rf >>= λ v. rg >>= λ w. k x y z u v w) (Err e) pa (first_fault e rb (λ y. rc >>= λ z. rd >>= λ u. rf >>= λ v. rg >>= λ w. k x y z u v w) pb)
given_6 (Ok x) (Ok y) (Err e) d f g ra rb rc rd rf rg pa pb pc pd pf pg k = after (λ x. rb >>= λ y. rc >>= λ z. rd >>= λ u. rf >>= λ v. rg >>= λ w. k x y z u v w) (Err e) pa (after (λ y. rc >>= λ z. rd >>= λ u. rf >>= λ v. rg >>= λ w. k x y z u v w) (Err e) pb (first_fault e rc (λ z. rd >>= λ u. rf >>= λ v. rg >>= λ w. k x y z u v w) pc))
given_6 (Ok x) (Ok y) (Ok z) (Err e) f g ra rb rc rd rf rg pa pb pc pd pf pg k = after (λ x. rb >>= λ y. rc >>= λ z. rd >>= λ u. rf >>= λ v. rg >>= λ w. k x y z u v w) (Err e) pa (after (λ y. rc >>= λ z. rd >>= λ u. rf >>= λ v. rg >>= λ w. k x y z u v w) (Err e) pb (after (λ z. rd >>= λ u. rf >>= λ v. rg >>= λ w. k x y z u v w) (Err e) pc (first_fault e rd (λ u. rf >>= λ v. rg >>= λ w. k x y z u v w) pd)))
given_6 (Ok x) (Ok y) (Ok z) (Ok u) (Err e) g ra rb rc rd rf rg pa pb pc pd pf pg k = after (λ x. rb >>= λ y. rc >>= λ z. rd >>= λ u. rf >>= λ v. rg >>= λ w. k x y z u v w) (Err e) pa (after (λ y. rc >>= λ z. rd >>= λ u. rf >>= λ v. rg >>= λ w. k x y z u v w) (Err e) pb (after (λ z. rd >>= λ u. rf >>= λ v. rg >>= λ w. k x y z u v w) (Err e) pc (after (λ u. rf >>= λ v. rg >>= λ w. k x y z u v w) (Err e) pd (first_fault e rf (λ v. rg >>= λ w. k x y z u v w) pf))))
given_6 (Ok x) (Ok y) (Ok z) (Ok u) (Ok v) (Err e) ra rb rc rd rf rg pa pb pc pd pf pg k = after (λ x. rb >>= λ y. rc >>= λ z. rd >>= λ u. rf >>= λ v. rg >>= λ w. k x y z u v w) (Err e) pa (after (λ y. rc >>= λ z. rd >>= λ u. rf >>= λ v. rg >>= λ w. k x y z u v w) (Err e) pb (after (λ z. rd >>= λ u. rf >>= λ v. rg >>= λ w. k x y z u v w) (Err e) pc (after (λ u. rf >>= λ v. rg >>= λ w. k x y z u v w) (Err e) pd (after (λ v. rg >>= λ w. k x y z u v w) (Err e) pf (first_fault e rg (λ w. k x y z u v w) pg)))))
given_6 (Ok x) (Ok y) (Ok z) (Ok u) (Ok v) (Ok w) ra rb rc rd rf rg pa pb pc pd pf pg k = after (λ x. rb >>= λ y. rc >>= λ z. rd >>= λ u. rf >>= λ v. rg >>= λ w. k x y z u v w) (k x y z u v w) pa (after (λ y. rc >>= λ z. rd >>= λ u. rf >>= λ v. rg >>= λ w. k x y z u v w) (k x y z u v w) pb (after (λ z. rd >>= λ u. rf >>= λ v. rg >>= λ w. k x y z u v w) (k x y z u v w) pc (after (λ u. rf >>= λ v. rg >>= λ w. k x y z u v w) (k x y z u v w) pd (after (λ v. rg >>= λ w. k x y z u v w) (k x y z u v w) pf (after (λ w. k x y z u v w) (k x y z u v w) pg (itself (k x y z u v w)))))))

pub gathered_6 : {A B C D F G T : Type 0} (r : Result (A × B × C × D × F × G) ReadError) (a : Result A ReadError) (b : Result B ReadError) (c : Result C ReadError) (d : Result D ReadError) (f : Result F ReadError) (g : Result G ReadError) (ra : Result A ReadError) (rb : Result B ReadError) (rc : Result C ReadError) (rd : Result D ReadError) (rf : Result F ReadError) (rg : Result G ReadError)
    → r ≡ all_6 a b c d f g → Gives a ra → Gives b rb → Gives c rc → Gives d rd → Gives f rf → Gives g rg
    → (k : A → B → C → D → F → G → Result T ReadError)
    → Gives (r >>= λ g. k g.0 g.1 g.2 g.3 g.4 g.5) (ra >>= λ x. rb >>= λ y. rc >>= λ z. rd >>= λ u. rf >>= λ v. rg >>= λ w. k x y z u v w)
gathered_6 r a b c d f g ra rb rc rd rf rg is pa pb pc pd pf pg k = subst (λ r. Gives (r >>= λ g. k g.0 g.1 g.2 g.3 g.4 g.5) (ra >>= λ x. rb >>= λ y. rc >>= λ z. rd >>= λ u. rf >>= λ v. rg >>= λ w. k x y z u v w)) (sym is) (given_6 a b c d f g ra rb rc rd rf rg pa pb pc pd pf pg k)

-- seven values
given_7 : {A B C D F G H T : Type 0} (a : Result A ReadError) (b : Result B ReadError) (c : Result C ReadError) (d : Result D ReadError) (f : Result F ReadError) (g : Result G ReadError) (h : Result H ReadError) (ra : Result A ReadError) (rb : Result B ReadError) (rc : Result C ReadError) (rd : Result D ReadError) (rf : Result F ReadError) (rg : Result G ReadError) (rh : Result H ReadError) → Gives a ra → Gives b rb → Gives c rc → Gives d rd → Gives f rf → Gives g rg → Gives h rh
    → (k : A → B → C → D → F → G → H → Result T ReadError)
    → Gives (all_7 a b c d f g h >>= λ g. k g.0 g.1 g.2 g.3 g.4 g.5 g.6) (ra >>= λ x. rb >>= λ y. rc >>= λ z. rd >>= λ u. rf >>= λ v. rg >>= λ w. rh >>= λ q. k x y z u v w q)
given_7 (Err e) b c d f g h ra rb rc rd rf rg rh pa pb pc pd pf pg ph k = first_fault e ra (λ x. rb >>= λ y. rc >>= λ z. rd >>= λ u. rf >>= λ v. rg >>= λ w. rh >>= λ q. k x y z u v w q) pa
given_7 (Ok x) (Err e) c d f g h ra rb rc rd rf rg rh pa pb pc pd pf pg ph k = after (λ x. rb >>= λ y. rc >>= λ z. rd >>= λ u. rf >>= λ v. rg >>= λ w. rh >>= λ q. k x y z u v w q) (Err e) pa (first_fault e rb (λ y. rc >>= λ z. rd >>= λ u. rf >>= λ v. rg >>= λ w. rh >>= λ q. k x y z u v w q) pb)
given_7 (Ok x) (Ok y) (Err e) d f g h ra rb rc rd rf rg rh pa pb pc pd pf pg ph k = after (λ x. rb >>= λ y. rc >>= λ z. rd >>= λ u. rf >>= λ v. rg >>= λ w. rh >>= λ q. k x y z u v w q) (Err e) pa (after (λ y. rc >>= λ z. rd >>= λ u. rf >>= λ v. rg >>= λ w. rh >>= λ q. k x y z u v w q) (Err e) pb (first_fault e rc (λ z. rd >>= λ u. rf >>= λ v. rg >>= λ w. rh >>= λ q. k x y z u v w q) pc))
given_7 (Ok x) (Ok y) (Ok z) (Err e) f g h ra rb rc rd rf rg rh pa pb pc pd pf pg ph k = after (λ x. rb >>= λ y. rc >>= λ z. rd >>= λ u. rf >>= λ v. rg >>= λ w. rh >>= λ q. k x y z u v w q) (Err e) pa (after (λ y. rc >>= λ z. rd >>= λ u. rf >>= λ v. rg >>= λ w. rh >>= λ q. k x y z u v w q) (Err e) pb (after (λ z. rd >>= λ u. rf >>= λ v. rg >>= λ w. rh >>= λ q. k x y z u v w q) (Err e) pc (first_fault e rd (λ u. rf >>= λ v. rg >>= λ w. rh >>= λ q. k x y z u v w q) pd)))
given_7 (Ok x) (Ok y) (Ok z) (Ok u) (Err e) g h ra rb rc rd rf rg rh pa pb pc pd pf pg ph k = after (λ x. rb >>= λ y. rc >>= λ z. rd >>= λ u. rf >>= λ v. rg >>= λ w. rh >>= λ q. k x y z u v w q) (Err e) pa (after (λ y. rc >>= λ z. rd >>= λ u. rf >>= λ v. rg >>= λ w. rh >>= λ q. k x y z u v w q) (Err e) pb (after (λ z. rd >>= λ u. rf >>= λ v. rg >>= λ w. rh >>= λ q. k x y z u v w q) (Err e) pc (after (λ u. rf >>= λ v. rg >>= λ w. rh >>= λ q. k x y z u v w q) (Err e) pd (first_fault e rf (λ v. rg >>= λ w. rh >>= λ q. k x y z u v w q) pf))))
given_7 (Ok x) (Ok y) (Ok z) (Ok u) (Ok v) (Err e) h ra rb rc rd rf rg rh pa pb pc pd pf pg ph k = after (λ x. rb >>= λ y. rc >>= λ z. rd >>= λ u. rf >>= λ v. rg >>= λ w. rh >>= λ q. k x y z u v w q) (Err e) pa (after (λ y. rc >>= λ z. rd >>= λ u. rf >>= λ v. rg >>= λ w. rh >>= λ q. k x y z u v w q) (Err e) pb (after (λ z. rd >>= λ u. rf >>= λ v. rg >>= λ w. rh >>= λ q. k x y z u v w q) (Err e) pc (after (λ u. rf >>= λ v. rg >>= λ w. rh >>= λ q. k x y z u v w q) (Err e) pd (after (λ v. rg >>= λ w. rh >>= λ q. k x y z u v w q) (Err e) pf (first_fault e rg (λ w. rh >>= λ q. k x y z u v w q) pg)))))
given_7 (Ok x) (Ok y) (Ok z) (Ok u) (Ok v) (Ok w) (Err e) ra rb rc rd rf rg rh pa pb pc pd pf pg ph k = after (λ x. rb >>= λ y. rc >>= λ z. rd >>= λ u. rf >>= λ v. rg >>= λ w. rh >>= λ q. k x y z u v w q) (Err e) pa (after (λ y. rc >>= λ z. rd >>= λ u. rf >>= λ v. rg >>= λ w. rh >>= λ q. k x y z u v w q) (Err e) pb (after (λ z. rd >>= λ u. rf >>= λ v. rg >>= λ w. rh >>= λ q. k x y z u v w q) (Err e) pc (after (λ u. rf >>= λ v. rg >>= λ w. rh >>= λ q. k x y z u v w q) (Err e) pd (after (λ v. rg >>= λ w. rh >>= λ q. k x y z u v w q) (Err e) pf (after (λ w. rh >>= λ q. k x y z u v w q) (Err e) pg (first_fault e rh (λ q. k x y z u v w q) ph))))))
given_7 (Ok x) (Ok y) (Ok z) (Ok u) (Ok v) (Ok w) (Ok q) ra rb rc rd rf rg rh pa pb pc pd pf pg ph k = after (λ x. rb >>= λ y. rc >>= λ z. rd >>= λ u. rf >>= λ v. rg >>= λ w. rh >>= λ q. k x y z u v w q) (k x y z u v w q) pa (after (λ y. rc >>= λ z. rd >>= λ u. rf >>= λ v. rg >>= λ w. rh >>= λ q. k x y z u v w q) (k x y z u v w q) pb (after (λ z. rd >>= λ u. rf >>= λ v. rg >>= λ w. rh >>= λ q. k x y z u v w q) (k x y z u v w q) pc (after (λ u. rf >>= λ v. rg >>= λ w. rh >>= λ q. k x y z u v w q) (k x y z u v w q) pd (after (λ v. rg >>= λ w. rh >>= λ q. k x y z u v w q) (k x y z u v w q) pf (after (λ w. rh >>= λ q. k x y z u v w q) (k x y z u v w q) pg (after (λ q. k x y z u v w q) (k x y z u v w q) ph (itself (k x y z u v w q))))))))

pub gathered_7 : {A B C D F G H T : Type 0} (r : Result (A × B × C × D × F × G × H) ReadError) (a : Result A ReadError) (b : Result B ReadError) (c : Result C ReadError) (d : Result D ReadError) (f : Result F ReadError) (g : Result G ReadError) (h : Result H ReadError) (ra : Result A ReadError) (rb : Result B ReadError) (rc : Result C ReadError) (rd : Result D ReadError) (rf : Result F ReadError) (rg : Result G ReadError) (rh : Result H ReadError)
    → r ≡ all_7 a b c d f g h → Gives a ra → Gives b rb → Gives c rc → Gives d rd → Gives f rf → Gives g rg → Gives h rh
    → (k : A → B → C → D → F → G → H → Result T ReadError)
    → Gives (r >>= λ g. k g.0 g.1 g.2 g.3 g.4 g.5 g.6) (ra >>= λ x. rb >>= λ y. rc >>= λ z. rd >>= λ u. rf >>= λ v. rg >>= λ w. rh >>= λ q. k x y z u v w q)
gathered_7 r a b c d f g h ra rb rc rd rf rg rh is pa pb pc pd pf pg ph k = subst (λ r. Gives (r >>= λ g. k g.0 g.1 g.2 g.3 g.4 g.5 g.6) (ra >>= λ x. rb >>= λ y. rc >>= λ z. rd >>= λ u. rf >>= λ v. rg >>= λ w. rh >>= λ q. k x y z u v w q)) (sym is) (given_7 a b c d f g h ra rb rc rd rf rg rh pa pb pc pd pf pg ph k)
