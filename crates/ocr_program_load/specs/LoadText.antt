-- The text of the program that `load` runs: a grid of EDTs, 8 to a layer, in so many layers. Each
-- adds three times the word of one neighbour before it, the word of the other, and its layer's
-- number; the last EDT prints the sum of the last layer.
use Rattle.std.specs.Prelude.{ℕ, List, ◌++◌, codes, decimal}

-- up to the number of layers
abbrev pub head_text : List ℕ
head_text =
    codes "fn node {\n"
    ++ codes "  let d = ocrDbCreate(8, 0);\n"
    ++ codes "  store(d, 0, load(depv[0], 0) * 3 + load(depv[1], 0) + paramv[1]);\n"
    ++ codes "  ocrDbRelease(d); ocrEventSatisfy(paramv[0], d);\n"
    ++ codes "}\n"
    ++ codes "fn total { let s = 0; let i = 0; "
    ++ codes "while i < 8 { s = s + load(depv[i], 0); i = i + 1; } print s; }\n"
    ++ codes "fn mainEdt {\n"
    ++ codes "  let g = ocrDbCreate(128, 0); let t = ocrEdtTemplateCreate(node, 2, 2); let i = 0;\n"
    ++ codes "  while i < 8 {\n"
    ++ codes "    let e = ocrEventCreate(OCR_EVENT_STICKY_T, EVT_PROP_TAKES_ARG);\n"
    ++ codes "    let d = ocrDbCreate(8, 0); store(d, 0, i + 1);\n"
    ++ codes "    ocrDbRelease(d); ocrEventSatisfy(e, d); store(g, i, e); i = i + 1;\n"
    ++ codes "  }\n"
    ++ codes "  let r = 1;\n"
    ++ codes "  while r <= "

-- from there to its second place
abbrev pub middle_text : List ℕ
middle_text =
    codes " {\n"
    ++ codes "    let from = (r + 1) % 2 * 8; let to = r % 2 * 8; i = 0;\n"
    ++ codes "    while i < 8 {\n"
    ++ codes "      store(g, to + i, ocrEventCreate(OCR_EVENT_STICKY_T, EVT_PROP_TAKES_ARG));\n"
    ++ codes "      let w = ocrEdtCreate(t, EDT_PARAM_DEF, [load(g, to + i), r], "
    ++ codes "EDT_PARAM_DEF, [], 0);\n"
    ++ codes "      ocrAddDependence(load(g, from + i), w, 0, DB_MODE_CONST);\n"
    ++ codes "      ocrAddDependence(load(g, from + (i + 1) % 8), w, 1, DB_MODE_CONST);\n"
    ++ codes "      i = i + 1;\n"
    ++ codes "    }\n"
    ++ codes "    r = r + 1;\n"
    ++ codes "  }\n"
    ++ codes "  let s = ocrEdtCreate(ocrEdtTemplateCreate(total, 0, 8), "
    ++ codes "EDT_PARAM_DEF, [], EDT_PARAM_DEF, [], 0);\n"
    ++ codes "  i = 0;\n"
    ++ codes "  while i < 8 { ocrAddDependence(load(g, "

-- the rest
abbrev pub tail_text : List ℕ
tail_text =
    codes " % 2 * 8 + i), s, i, DB_MODE_CONST); i = i + 1; }\n"
    ++ codes "}\n"

-- the text with this number of layers
abbrev pub load_text : ℕ → List ℕ
load_text n = head_text ++ decimal n ++ middle_text ++ decimal n ++ tail_text
