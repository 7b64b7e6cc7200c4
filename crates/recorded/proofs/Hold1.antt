-- The definitions answer as recorded: antt computes it. By tools/model-replay. Assumes nothing.
use mathlib.Core.Path.{refl}
use Rattle.against_rust.specs.Shape.{RunHolds}
use Rattle.against_rust.proofs.OpenRuns.{open-runs}
use Rattle.recorded.specs.Runs1.{run210, run211, run212, run213, run214, run215, run216, run217, run218, run219, run220, run221, run222, run223, run224, run225, run226, run227, run228, run229, run230, run231, run232, run233, run234, run235, run236, run237, run238, run239, run240, run241, run242, run243, run244, run245, run246, run247, run248, run249, run250, run251, run252, run253, run254, run255, run256, run257, run258, run259, run260, run261, run262, run263, run264, run265, run266, run267, run268, run269, run270, run271, run272, run273, run274, run275, run276, run277, run278, run279, run280, run281, run282, run283, run284, run285, run286, run287, run288, run289, run290, run291, run292, run293, run294, run295, run296, run297, run298, run299, run300, run301, run302, run303, run304, run305, run306, run307, run308, run309, run310, run311, run312, run313, run314, run315, run316, run317, run318, run319, run320, run321, run322, run323, run324, run325, run326, run327, run328, run329, run330, run331, run332, run333, run334, run335, run336, run337, run338, run339, run340, run341, run342, run343, run344, run345, run346, run347, run348, run349, run350, run351, run352, run353, run354, run355, run356, run357, run358, run359, run360, run361, run362, run363}

pub hold210 : RunHolds run210
unfolding open-runs run210
hold210 = refl

pub hold211 : RunHolds run211
unfolding open-runs run211
hold211 = refl

pub hold212 : RunHolds run212
unfolding open-runs run212
hold212 = refl

pub hold213 : RunHolds run213
unfolding open-runs run213
hold213 = refl

pub hold214 : RunHolds run214
unfolding open-runs run214
hold214 = refl

pub hold215 : RunHolds run215
unfolding open-runs run215
hold215 = refl

pub hold216 : RunHolds run216
unfolding open-runs run216
hold216 = refl

pub hold217 : RunHolds run217
unfolding open-runs run217
hold217 = refl

pub hold218 : RunHolds run218
unfolding open-runs run218
hold218 = refl

pub hold219 : RunHolds run219
unfolding open-runs run219
hold219 = refl

pub hold220 : RunHolds run220
unfolding open-runs run220
hold220 = refl

pub hold221 : RunHolds run221
unfolding open-runs run221
hold221 = refl

pub hold222 : RunHolds run222
unfolding open-runs run222
hold222 = refl

pub hold223 : RunHolds run223
unfolding open-runs run223
hold223 = refl

pub hold224 : RunHolds run224
unfolding open-runs run224
hold224 = refl

pub hold225 : RunHolds run225
unfolding open-runs run225
hold225 = refl

pub hold226 : RunHolds run226
unfolding open-runs run226
hold226 = refl

pub hold227 : RunHolds run227
unfolding open-runs run227
hold227 = refl

pub hold228 : RunHolds run228
unfolding open-runs run228
hold228 = refl

pub hold229 : RunHolds run229
unfolding open-runs run229
hold229 = refl

pub hold230 : RunHolds run230
unfolding open-runs run230
hold230 = refl

pub hold231 : RunHolds run231
unfolding open-runs run231
hold231 = refl

pub hold232 : RunHolds run232
unfolding open-runs run232
hold232 = refl

pub hold233 : RunHolds run233
unfolding open-runs run233
hold233 = refl

pub hold234 : RunHolds run234
unfolding open-runs run234
hold234 = refl

pub hold235 : RunHolds run235
unfolding open-runs run235
hold235 = refl

pub hold236 : RunHolds run236
unfolding open-runs run236
hold236 = refl

pub hold237 : RunHolds run237
unfolding open-runs run237
hold237 = refl

pub hold238 : RunHolds run238
unfolding open-runs run238
hold238 = refl

pub hold239 : RunHolds run239
unfolding open-runs run239
hold239 = refl

pub hold240 : RunHolds run240
unfolding open-runs run240
hold240 = refl

pub hold241 : RunHolds run241
unfolding open-runs run241
hold241 = refl

pub hold242 : RunHolds run242
unfolding open-runs run242
hold242 = refl

pub hold243 : RunHolds run243
unfolding open-runs run243
hold243 = refl

pub hold244 : RunHolds run244
unfolding open-runs run244
hold244 = refl

pub hold245 : RunHolds run245
unfolding open-runs run245
hold245 = refl

pub hold246 : RunHolds run246
unfolding open-runs run246
hold246 = refl

pub hold247 : RunHolds run247
unfolding open-runs run247
hold247 = refl

pub hold248 : RunHolds run248
unfolding open-runs run248
hold248 = refl

pub hold249 : RunHolds run249
unfolding open-runs run249
hold249 = refl

pub hold250 : RunHolds run250
unfolding open-runs run250
hold250 = refl

pub hold251 : RunHolds run251
unfolding open-runs run251
hold251 = refl

pub hold252 : RunHolds run252
unfolding open-runs run252
hold252 = refl

pub hold253 : RunHolds run253
unfolding open-runs run253
hold253 = refl

pub hold254 : RunHolds run254
unfolding open-runs run254
hold254 = refl

pub hold255 : RunHolds run255
unfolding open-runs run255
hold255 = refl

pub hold256 : RunHolds run256
unfolding open-runs run256
hold256 = refl

pub hold257 : RunHolds run257
unfolding open-runs run257
hold257 = refl

pub hold258 : RunHolds run258
unfolding open-runs run258
hold258 = refl

pub hold259 : RunHolds run259
unfolding open-runs run259
hold259 = refl

pub hold260 : RunHolds run260
unfolding open-runs run260
hold260 = refl

pub hold261 : RunHolds run261
unfolding open-runs run261
hold261 = refl

pub hold262 : RunHolds run262
unfolding open-runs run262
hold262 = refl

pub hold263 : RunHolds run263
unfolding open-runs run263
hold263 = refl

pub hold264 : RunHolds run264
unfolding open-runs run264
hold264 = refl

pub hold265 : RunHolds run265
unfolding open-runs run265
hold265 = refl

pub hold266 : RunHolds run266
unfolding open-runs run266
hold266 = refl

pub hold267 : RunHolds run267
unfolding open-runs run267
hold267 = refl

pub hold268 : RunHolds run268
unfolding open-runs run268
hold268 = refl

pub hold269 : RunHolds run269
unfolding open-runs run269
hold269 = refl

pub hold270 : RunHolds run270
unfolding open-runs run270
hold270 = refl

pub hold271 : RunHolds run271
unfolding open-runs run271
hold271 = refl

pub hold272 : RunHolds run272
unfolding open-runs run272
hold272 = refl

pub hold273 : RunHolds run273
unfolding open-runs run273
hold273 = refl

pub hold274 : RunHolds run274
unfolding open-runs run274
hold274 = refl

pub hold275 : RunHolds run275
unfolding open-runs run275
hold275 = refl

pub hold276 : RunHolds run276
unfolding open-runs run276
hold276 = refl

pub hold277 : RunHolds run277
unfolding open-runs run277
hold277 = refl

pub hold278 : RunHolds run278
unfolding open-runs run278
hold278 = refl

pub hold279 : RunHolds run279
unfolding open-runs run279
hold279 = refl

pub hold280 : RunHolds run280
unfolding open-runs run280
hold280 = refl

pub hold281 : RunHolds run281
unfolding open-runs run281
hold281 = refl

pub hold282 : RunHolds run282
unfolding open-runs run282
hold282 = refl

pub hold283 : RunHolds run283
unfolding open-runs run283
hold283 = refl

pub hold284 : RunHolds run284
unfolding open-runs run284
hold284 = refl

pub hold285 : RunHolds run285
unfolding open-runs run285
hold285 = refl

pub hold286 : RunHolds run286
unfolding open-runs run286
hold286 = refl

pub hold287 : RunHolds run287
unfolding open-runs run287
hold287 = refl

pub hold288 : RunHolds run288
unfolding open-runs run288
hold288 = refl

pub hold289 : RunHolds run289
unfolding open-runs run289
hold289 = refl

pub hold290 : RunHolds run290
unfolding open-runs run290
hold290 = refl

pub hold291 : RunHolds run291
unfolding open-runs run291
hold291 = refl

pub hold292 : RunHolds run292
unfolding open-runs run292
hold292 = refl

pub hold293 : RunHolds run293
unfolding open-runs run293
hold293 = refl

pub hold294 : RunHolds run294
unfolding open-runs run294
hold294 = refl

pub hold295 : RunHolds run295
unfolding open-runs run295
hold295 = refl

pub hold296 : RunHolds run296
unfolding open-runs run296
hold296 = refl

pub hold297 : RunHolds run297
unfolding open-runs run297
hold297 = refl

pub hold298 : RunHolds run298
unfolding open-runs run298
hold298 = refl

pub hold299 : RunHolds run299
unfolding open-runs run299
hold299 = refl

pub hold300 : RunHolds run300
unfolding open-runs run300
hold300 = refl

pub hold301 : RunHolds run301
unfolding open-runs run301
hold301 = refl

pub hold302 : RunHolds run302
unfolding open-runs run302
hold302 = refl

pub hold303 : RunHolds run303
unfolding open-runs run303
hold303 = refl

pub hold304 : RunHolds run304
unfolding open-runs run304
hold304 = refl

pub hold305 : RunHolds run305
unfolding open-runs run305
hold305 = refl

pub hold306 : RunHolds run306
unfolding open-runs run306
hold306 = refl

pub hold307 : RunHolds run307
unfolding open-runs run307
hold307 = refl

pub hold308 : RunHolds run308
unfolding open-runs run308
hold308 = refl

pub hold309 : RunHolds run309
unfolding open-runs run309
hold309 = refl

pub hold310 : RunHolds run310
unfolding open-runs run310
hold310 = refl

pub hold311 : RunHolds run311
unfolding open-runs run311
hold311 = refl

pub hold312 : RunHolds run312
unfolding open-runs run312
hold312 = refl

pub hold313 : RunHolds run313
unfolding open-runs run313
hold313 = refl

pub hold314 : RunHolds run314
unfolding open-runs run314
hold314 = refl

pub hold315 : RunHolds run315
unfolding open-runs run315
hold315 = refl

pub hold316 : RunHolds run316
unfolding open-runs run316
hold316 = refl

pub hold317 : RunHolds run317
unfolding open-runs run317
hold317 = refl

pub hold318 : RunHolds run318
unfolding open-runs run318
hold318 = refl

pub hold319 : RunHolds run319
unfolding open-runs run319
hold319 = refl

pub hold320 : RunHolds run320
unfolding open-runs run320
hold320 = refl

pub hold321 : RunHolds run321
unfolding open-runs run321
hold321 = refl

pub hold322 : RunHolds run322
unfolding open-runs run322
hold322 = refl

pub hold323 : RunHolds run323
unfolding open-runs run323
hold323 = refl

pub hold324 : RunHolds run324
unfolding open-runs run324
hold324 = refl

pub hold325 : RunHolds run325
unfolding open-runs run325
hold325 = refl

pub hold326 : RunHolds run326
unfolding open-runs run326
hold326 = refl

pub hold327 : RunHolds run327
unfolding open-runs run327
hold327 = refl

pub hold328 : RunHolds run328
unfolding open-runs run328
hold328 = refl

pub hold329 : RunHolds run329
unfolding open-runs run329
hold329 = refl

pub hold330 : RunHolds run330
unfolding open-runs run330
hold330 = refl

pub hold331 : RunHolds run331
unfolding open-runs run331
hold331 = refl

pub hold332 : RunHolds run332
unfolding open-runs run332
hold332 = refl

pub hold333 : RunHolds run333
unfolding open-runs run333
hold333 = refl

pub hold334 : RunHolds run334
unfolding open-runs run334
hold334 = refl

pub hold335 : RunHolds run335
unfolding open-runs run335
hold335 = refl

pub hold336 : RunHolds run336
unfolding open-runs run336
hold336 = refl

pub hold337 : RunHolds run337
unfolding open-runs run337
hold337 = refl

pub hold338 : RunHolds run338
unfolding open-runs run338
hold338 = refl

pub hold339 : RunHolds run339
unfolding open-runs run339
hold339 = refl

pub hold340 : RunHolds run340
unfolding open-runs run340
hold340 = refl

pub hold341 : RunHolds run341
unfolding open-runs run341
hold341 = refl

pub hold342 : RunHolds run342
unfolding open-runs run342
hold342 = refl

pub hold343 : RunHolds run343
unfolding open-runs run343
hold343 = refl

pub hold344 : RunHolds run344
unfolding open-runs run344
hold344 = refl

pub hold345 : RunHolds run345
unfolding open-runs run345
hold345 = refl

pub hold346 : RunHolds run346
unfolding open-runs run346
hold346 = refl

pub hold347 : RunHolds run347
unfolding open-runs run347
hold347 = refl

pub hold348 : RunHolds run348
unfolding open-runs run348
hold348 = refl

pub hold349 : RunHolds run349
unfolding open-runs run349
hold349 = refl

pub hold350 : RunHolds run350
unfolding open-runs run350
hold350 = refl

pub hold351 : RunHolds run351
unfolding open-runs run351
hold351 = refl

pub hold352 : RunHolds run352
unfolding open-runs run352
hold352 = refl

pub hold353 : RunHolds run353
unfolding open-runs run353
hold353 = refl

pub hold354 : RunHolds run354
unfolding open-runs run354
hold354 = refl

pub hold355 : RunHolds run355
unfolding open-runs run355
hold355 = refl

pub hold356 : RunHolds run356
unfolding open-runs run356
hold356 = refl

pub hold357 : RunHolds run357
unfolding open-runs run357
hold357 = refl

pub hold358 : RunHolds run358
unfolding open-runs run358
hold358 = refl

pub hold359 : RunHolds run359
unfolding open-runs run359
hold359 = refl

pub hold360 : RunHolds run360
unfolding open-runs run360
hold360 = refl

pub hold361 : RunHolds run361
unfolding open-runs run361
hold361 = refl

pub hold362 : RunHolds run362
unfolding open-runs run362
hold362 = refl

pub hold363 : RunHolds run363
unfolding open-runs run363
hold363 = refl
