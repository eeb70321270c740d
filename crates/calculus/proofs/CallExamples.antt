-- Examples by computation: the calls on bytes. The listing of document 01, each refusal, the order of the questions, and what a failing call leaves.
use mathlib.Core.Path.{◌≡◌, refl}
use mathlib.Core.Bool.{decide}
use mathlib.Core.Option.{Option, none, some}
use mathlib.Core.List.{List, [], ◌∷◌, ◌++◌, map}
use Prim.Native.Nat.{ℕ}
use native.Mathlib.Decide.{ℕ_discrete, dec_lt, dec_le}
use lib.ListN.{length, replicate}
use Rattle.formula.specs.declared.Sort.TheVariants.{Faces}
use Rattle.formula.specs.Formula.{lo, hi, ff, ft, at, fand, for, i0, i1, dim}
use Rattle.formula.specs.Operations
use Rattle.formula.specs.Bytes
use Rattle.calculus.specs.Judgement.{Judgement, Step, same_list, same_face, same_judgement}
use Rattle.calculus.specs.Table.{table}
use Rattle.calculus.specs.Search
use Rattle.calculus.specs.Record
use Rattle.calculus.specs.Parse
use Rattle.calculus.specs.Parse.{read_ledger}
use Rattle.calculus.specs.Emit
use Rattle.calculus.specs.Emit.{done, unbounded, run}
use Rattle.calculus.specs.Calls
use Rattle.calculus.specs.Calls.{emit_entails}
use Rattle.refusals.specs.declared.Refusal.TheVariants.{IllFormedLedger, NotAFormula, TooManyNodes, LargeDimension, LargeResult, ShortOutput, FullLedger, NotBelow, NotImplied}
use Rattle.calculus.specs.Door.{Call, face, interval, shift, entails, Answer, answered, refused, Reply, refuse, reply}
use Rattle.calculus.specs.Demand.{empty}

-- To unfold this is to unfold the model.
unfoldable pub model : Type 0
unfolding reply read_ledger Parse.take_little Parse.take_part Parse.all_zero Parse.read_steps Parse.read_record Parse.read_body Parse.read_references Parse.read_values Parse.read_faces Bytes.read Bytes.read_in Bytes.read_all Bytes.node_of Bytes.encode_face Bytes.encode_interval Bytes.nodes_face Bytes.nodes_interval Bytes.bound_face Bytes.bound_interval Record.ledger_bytes Record.steps_bytes Record.record_bytes Record.body_bytes Record.references_bytes Record.faces_bytes Record.bound_context run Emit.find Calls.emit_comparison Calls.emit_interval Calls.emit_face Calls.emit_member Calls.emit_take Calls.emit_cover_in Calls.emit_cover emit_entails Calls.emit_boundary Calls.emit_endpoint Calls.emit_forall Calls.emit_intervals Calls.emit_faces Search.nodes_context Search.move Search.has Search.try_clash Search.try_left Operations.boundary Operations.forall Operations.itransform Operations.ftransform decide table same_judgement same_list same_face ℕ_discrete dec_lt dec_le
model = ℕ

-- A step in short.
step : ℕ → List ℕ → Judgement → Step
step k is j = record { kind = k; references = is; judgement = j }

-- The listing -----------------------------------------------------------------------------

-- The six steps of document 01 as bytes: 79 of them.
listing : List ℕ
listing =
    75 ∷ 0 ∷ 0 ∷ 0 ∷
    4 ∷ 0 ∷ 0 ∷ 0 ∷ 1 ∷ 0 ∷ 0 ∷ 1 ∷
    9 ∷ 0 ∷ 0 ∷ 0 ∷ 7 ∷ 0 ∷ 0 ∷ 0 ∷ 0 ∷ 0 ∷ 1 ∷ 18 ∷ 0 ∷
    9 ∷ 0 ∷ 0 ∷ 0 ∷ 13 ∷ 0 ∷ 1 ∷ 0 ∷ 0 ∷ 0 ∷ 1 ∷ 2 ∷ 0 ∷
    4 ∷ 0 ∷ 0 ∷ 0 ∷ 12 ∷ 0 ∷ 1 ∷ 1 ∷
    7 ∷ 0 ∷ 0 ∷ 0 ∷ 21 ∷ 0 ∷ 1 ∷ 0 ∷ 2 ∷ 0 ∷ 1 ∷
    18 ∷ 0 ∷ 0 ∷ 0 ∷ 30 ∷ 0 ∷ 2 ∷ 0 ∷ 0 ∷ 0 ∷ 3 ∷ 0 ∷ 0 ∷ 0 ∷ 4 ∷ 0 ∷ 0 ∷ 0 ∷ 1 ∷ 2 ∷ 0 ∷ 1 ∷
    []

-- `entails (s z) (at0 z) ft`.
listed : Call
listed = entails 1 (2 ∷ 0 ∷ []) (1 ∷ [])

-- In a ledger with a byte to spare; in one with a byte too little for the last step, which comes back unchanged; again in one that is full, which answers the same and appends nothing.
listings : List Reply
listings = reply listed (empty 80) ∷ reply listed (empty 78) ∷ reply listed listing ∷ []

listings-as : listings
    ≡ record { answer = answered 5 []; ledger = listing ++ 0 ∷ []; outputs = [] }
    ∷ refuse FullLedger (empty 78) []
    ∷ record { answer = answered 5 []; ledger = listing; outputs = [] }
    ∷ []
unfolding listings listed listing model
listings-as = refl

-- Refusals ----------------------------------------------------------------------------------------

-- An interval of 512 nodes, a face of 513.
long-interval : List ℕ
long-interval = replicate 511 19 ++ 16 ∷ []

long-face : List ℕ
long-face = replicate 256 4 ++ replicate 257 0

-- Each of these calls is refused by one question and those after it: the first decides.
refusals : List Answer
refusals =
    -- 1: a ledger of three bytes; 2: an interval for a face, beside one that is too long.
    (reply (entails 256 long-face (16 ∷ [])) (empty 3)).answer ∷
    (reply (entails 256 long-face (16 ∷ [])) (empty 4)).answer ∷
    -- 3: 512 nodes, beside a number that is too large.
    (reply (interval 256 long-interval) (empty 4)).answer ∷
    -- 4: d, k and a dimension too large, beside a result that is.
    (reply (face 256 (0 ∷ [])) (empty 4)).answer ∷
    (reply (shift Faces (2 ∷ 254 ∷ []) 255 []) (empty 4)).answer ∷
    (reply (face 0 (2 ∷ 255 ∷ [])) (empty 4)).answer ∷
    -- 5: shift at 0 of 254, beside an output that is too short.
    (reply (shift Faces (2 ∷ 254 ∷ []) 0 []) (empty 4)).answer ∷
    -- 6: a result of two bytes, beside a ledger that has no room.
    (reply (shift Faces (2 ∷ 253 ∷ []) 0 (0 ∷ [])) (empty 4)).answer ∷
    -- 7: no room for the step that a call leaves that fails by 8, or by 9.
    (reply (entails 0 (0 ∷ []) (2 ∷ 0 ∷ [])) (empty 11)).answer ∷
    (reply (entails 0 (1 ∷ []) (0 ∷ [])) (empty 19)).answer ∷
    -- 8: a dimension not below d, beside an implication that does not hold; 9.
    (reply (entails 0 (1 ∷ []) (2 ∷ 0 ∷ [])) (empty 12)).answer ∷
    (reply (entails 0 (1 ∷ []) (0 ∷ [])) (empty 20)).answer ∷
    []

refusals-as : refusals
    ≡ map refused (
    IllFormedLedger ∷ NotAFormula ∷ TooManyNodes ∷ LargeDimension ∷ LargeDimension ∷ LargeDimension ∷ LargeResult ∷ ShortOutput ∷ FullLedger ∷ FullLedger ∷ NotBelow ∷ NotImplied ∷ []
    )
unfolding refusals long-interval long-face model
refusals-as = refl

-- A refusal by 1 to 7 leaves every byte, one by 8 or 9 its steps: here face.ft, and for 9 face.ff too.
leavings : List Reply
leavings =
    reply (shift Faces (2 ∷ 1 ∷ []) 0 (9 ∷ [])) (empty 4) ∷
    reply (entails 0 (1 ∷ []) (2 ∷ 0 ∷ [])) (empty 13) ∷
    reply (entails 0 (1 ∷ []) (0 ∷ [])) (empty 20) ∷
    []

leavings-as : leavings
    ≡ refuse ShortOutput (empty 4) ((9 ∷ []) ∷ [])
    ∷ record { answer = refused NotBelow; ledger = 8 ∷ 0 ∷ 0 ∷ 0 ∷ 4 ∷ 0 ∷ 0 ∷ 0 ∷ 12 ∷ 0 ∷ 0 ∷ 1 ∷ 0 ∷ []; outputs = [] }
    ∷ record { answer = refused NotImplied; ledger = 16 ∷ 0 ∷ 0 ∷ 0 ∷ 4 ∷ 0 ∷ 0 ∷ 0 ∷ 12 ∷ 0 ∷ 0 ∷ 1 ∷ 4 ∷ 0 ∷ 0 ∷ 0 ∷ 11 ∷ 0 ∷ 0 ∷ 0 ∷ []; outputs = [] }
    ∷ []
unfolding leavings model
leavings-as = refl

-- Ledgers that are ill formed: too short; a length beyond the end; a byte after the records; a record's length not used up, and too short; kinds 0 and 76;
-- a reference to the step itself; too few references; k of 255; a dimension of 255; a local whose last operand is no end; a context of 512 nodes.
ill-formed : List (List ℕ)
ill-formed =
    (0 ∷ 0 ∷ 0 ∷ []) ∷
    (1 ∷ 0 ∷ 0 ∷ 0 ∷ []) ∷
    (0 ∷ 0 ∷ 0 ∷ 0 ∷ 1 ∷ []) ∷
    (9 ∷ 0 ∷ 0 ∷ 0 ∷ 5 ∷ 0 ∷ 0 ∷ 0 ∷ 11 ∷ 0 ∷ 0 ∷ 0 ∷ 0 ∷ []) ∷
    (8 ∷ 0 ∷ 0 ∷ 0 ∷ 3 ∷ 0 ∷ 0 ∷ 0 ∷ 11 ∷ 0 ∷ 0 ∷ 0 ∷ []) ∷
    (6 ∷ 0 ∷ 0 ∷ 0 ∷ 2 ∷ 0 ∷ 0 ∷ 0 ∷ 0 ∷ 0 ∷ []) ∷
    (6 ∷ 0 ∷ 0 ∷ 0 ∷ 2 ∷ 0 ∷ 0 ∷ 0 ∷ 76 ∷ 0 ∷ []) ∷
    (13 ∷ 0 ∷ 0 ∷ 0 ∷ 9 ∷ 0 ∷ 0 ∷ 0 ∷ 8 ∷ 0 ∷ 0 ∷ 0 ∷ 0 ∷ 0 ∷ 0 ∷ 19 ∷ 16 ∷ []) ∷
    (9 ∷ 0 ∷ 0 ∷ 0 ∷ 5 ∷ 0 ∷ 0 ∷ 0 ∷ 8 ∷ 0 ∷ 0 ∷ 19 ∷ 16 ∷ []) ∷
    (9 ∷ 0 ∷ 0 ∷ 0 ∷ 5 ∷ 0 ∷ 0 ∷ 0 ∷ 49 ∷ 0 ∷ 16 ∷ 255 ∷ 16 ∷ []) ∷
    (10 ∷ 0 ∷ 0 ∷ 0 ∷ 6 ∷ 0 ∷ 0 ∷ 0 ∷ 31 ∷ 0 ∷ 18 ∷ 255 ∷ 1 ∷ 0 ∷ []) ∷
    (31 ∷ 0 ∷ 0 ∷ 0 ∷ 4 ∷ 0 ∷ 0 ∷ 0 ∷ 11 ∷ 0 ∷ 0 ∷ 0 ∷ 19 ∷ 0 ∷ 0 ∷ 0 ∷ 37 ∷ 0 ∷ (replicate 14 0 ++ 16 ∷ 18 ∷ 0 ∷ [])) ∷
    (9 ∷ 2 ∷ 0 ∷ 0 ∷ 5 ∷ 2 ∷ 0 ∷ 0 ∷ 21 ∷ 0 ∷ 0 ∷ 2 ∷ (replicate 512 0 ++ 1 ∷ [])) ∷
    []

ill-formed-as : map read_ledger ill-formed ≡ replicate (length ill-formed) none
unfolding ill-formed model
ill-formed-as = refl

-- Ledgers that are well formed: an empty one; a judgement that is false and does not follow, twice; k and a dimension of 254; a local with references of other predicates; a context of 511 nodes.
well-formed : List (Option (List Step))
well-formed =
    read_ledger (empty 6) ∷
    read_ledger (16 ∷ 0 ∷ 0 ∷ 0 ∷ 4 ∷ 0 ∷ 0 ∷ 0 ∷ 1 ∷ 0 ∷ 255 ∷ 3 ∷ 4 ∷ 0 ∷ 0 ∷ 0 ∷ 1 ∷ 0 ∷ 255 ∷ 3 ∷ []) ∷
    read_ledger (11 ∷ 0 ∷ 0 ∷ 0 ∷ 7 ∷ 0 ∷ 0 ∷ 0 ∷ 49 ∷ 0 ∷ 18 ∷ 254 ∷ 254 ∷ 18 ∷ 254 ∷ []) ∷
    read_ledger (30 ∷ 0 ∷ 0 ∷ 0 ∷ 4 ∷ 0 ∷ 0 ∷ 0 ∷ 11 ∷ 0 ∷ 0 ∷ 0 ∷ 18 ∷ 0 ∷ 0 ∷ 0 ∷ 37 ∷ 0 ∷ (replicate 14 0 ++ 16 ∷ 17 ∷ [])) ∷
    read_ledger (8 ∷ 2 ∷ 0 ∷ 0 ∷ 4 ∷ 2 ∷ 0 ∷ 0 ∷ 21 ∷ 0 ∷ 255 ∷ 1 ∷ (replicate 511 0 ++ 1 ∷ [])) ∷
    []

well-formed-as : well-formed
    ≡ some []
    ∷ some (step 1 [] (Judgement.lt 255 3) ∷ step 1 [] (Judgement.lt 255 3) ∷ [])
    ∷ some (step 49 [] (Judgement.ishift (dim 254) 254 (dim 254)) ∷ [])
    ∷ some (step 11 [] (Judgement.face 0 ff) ∷ step 37 (0 ∷ 0 ∷ 0 ∷ []) (Judgement.local 0 ff i0 i1) ∷ [])
    ∷ some (step 21 [] (Judgement.cover (replicate 511 ff) ft) ∷ [])
    ∷ []
unfolding well-formed step model
well-formed-as = refl

-- Steps of the search ---------------------------------------------------------------------------------

-- 0 entails (ft fand 0') for 0: the left try fails, and its step 7 stays.
left-try : run unbounded (emit_entails 1 (at lo 0) (for (fand ft (at hi 0)) (at lo 0))) []
    ≡ done 11 (
    step 1 [] (Judgement.lt 0 1) ∷
    step 7 (0 ∷ []) (Judgement.interval 1 (dim 0)) ∷
    step 13 (1 ∷ []) (Judgement.face 1 (at lo 0)) ∷
    step 12 [] (Judgement.face 1 ft) ∷
    step 14 (1 ∷ []) (Judgement.face 1 (at hi 0)) ∷
    step 15 (3 ∷ 4 ∷ []) (Judgement.face 1 (fand ft (at hi 0))) ∷
    step 16 (5 ∷ 2 ∷ []) (Judgement.face 1 (for (fand ft (at hi 0)) (at lo 0))) ∷
    step 21 [] (Judgement.cover (at lo 0 ∷ []) ft) ∷
    step 17 [] (Judgement.member (at lo 0) (at lo 0 ∷ [])) ∷
    step 22 (8 ∷ []) (Judgement.cover (at lo 0 ∷ []) (at lo 0)) ∷
    step 29 (9 ∷ []) (Judgement.cover (at lo 0 ∷ []) (for (fand ft (at hi 0)) (at lo 0))) ∷
    step 30 (2 ∷ 6 ∷ 10 ∷ []) (Judgement.entails 1 (at lo 0) (for (fand ft (at hi 0)) (at lo 0))) ∷
    []
    )
unfolding step model
left-try = refl

-- 0' fand 0 entails ff: the one side stands first, the clash names the zero side first.
clash : run unbounded (emit_entails 1 (fand (at hi 0) (at lo 0)) ff) []
    ≡ done 12 (
    step 1 [] (Judgement.lt 0 1) ∷
    step 7 (0 ∷ []) (Judgement.interval 1 (dim 0)) ∷
    step 14 (1 ∷ []) (Judgement.face 1 (at hi 0)) ∷
    step 13 (1 ∷ []) (Judgement.face 1 (at lo 0)) ∷
    step 15 (2 ∷ 3 ∷ []) (Judgement.face 1 (fand (at hi 0) (at lo 0))) ∷
    step 11 [] (Judgement.face 1 ff) ∷
    step 19 [] (Judgement.take (fand (at hi 0) (at lo 0) ∷ []) (fand (at hi 0) (at lo 0)) []) ∷
    step 17 [] (Judgement.member (at lo 0) (at lo 0 ∷ [])) ∷
    step 18 (7 ∷ []) (Judgement.member (at lo 0) (at hi 0 ∷ at lo 0 ∷ [])) ∷
    step 17 [] (Judgement.member (at hi 0) (at hi 0 ∷ at lo 0 ∷ [])) ∷
    step 24 (8 ∷ 9 ∷ []) (Judgement.cover (at hi 0 ∷ at lo 0 ∷ []) ff) ∷
    step 25 (6 ∷ 10 ∷ []) (Judgement.cover (fand (at hi 0) (at lo 0) ∷ []) ff) ∷
    step 30 (4 ∷ 5 ∷ 11 ∷ []) (Judgement.entails 1 (fand (at hi 0) (at lo 0)) ff) ∷
    []
    )
unfolding step model
clash = refl
